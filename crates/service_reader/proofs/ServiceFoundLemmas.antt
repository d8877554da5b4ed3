-- The collections of a service document that are read so far.
use Rattle.std.proofs.Common.{◌≡◌, ◌⊎◌, ◌≤◌, ◌<◌, ℕ, List, [], ◌∷◌, ◌++◌, length, true, false, Option, Some, None}
use Rattle.std.proofs.Common.{refl, sym, ap, subst, ◌∙◌, append_assoc, arith, codes, ⊎_elim}
use Rattle.std.specs.Prelude.{is_some, flat_map, Result, Ok, Err}
use Rattle.std.specs.List.{AllZip}
use Rattle.std.proofs.lemmas.Bool.{both_ways, cases_Bool}
use Rattle.std.proofs.lemmas.List.{append-nil, length-map}
use Rattle.std.proofs.lemmas.Grind.{flat_map-append}
use Rattle.xml_tokens.specs.declared.elements.Elements.{Elements}
use Rattle.xml_tokens.specs.declared.fault.TokenFault.{TokenFault}
use Rattle.xml_tokens.specs.Progress.{Point}
use Rattle.xml_tokens.specs.Tree.{Element, Content, Event}
use Rattle.xml_tokens.specs.Children.{Child, named, with_child}
use Rattle.xml_tokens.specs.Names.{app}
use Rattle.feed_reader.specs.Feed.{target}
use Rattle.xml_tokens.specs.Order.{IsFirst}
use Rattle.feed_reader.specs.Rest.{IsRestRead, elements_only}
use Rattle.feed_reader.proofs.ChildrenLemmas.{only_named}
use Rattle.feed_reader.proofs.FeedPartLemmas.{the_child, zip_length, zip_push}
use Rattle.feed_reader.proofs.NamedLemmas.{named_more, named_other}
use Rattle.xml_tokens.proofs.OrderLemmas.{IsOwn}
use Rattle.service_reader.specs.declared.fault.ServiceWhy.{ServiceWhy}
use Rattle.service_reader.specs.declared.fault.ServiceWhy.TheVariants.{BadLink, TooMany}
use Rattle.service_reader.specs.declared.found.Found.{Found}
use Rattle.service_reader.specs.declared.values.Collection.{Collection}
use Rattle.service_reader.specs.Service.{IsCollectionOf, collection_limit, collections_in, collections_of, is_app}
use Rattle.service_reader.specs.ServiceFaults.{placed_after, service_rules}
use Rattle.service_reader.specs.ServiceReading.{AreAdded, AreFound}
use Rattle.service_reader.proofs.ServiceFaultLemmas.{collection_bad, collection_good, collection_over, first_more}
use Rattle.service_reader.proofs.ServiceFaultLemmas.{first_past, one_placed}

-- a collection after others
module _ (address : List ℕ) (seen : List Child) (c : Child) (old new : Found) (h : AreFound address seen old)
    (none : old.refused ≡ None) where
  counted : length seen ≡ length old.collections.items
  counted = zip_length (IsCollectionOf address) seen old.collections.items (h.read none)

  before : IsFirst (service_rules address) (placed_after [] seen) None
  before = subst (λ r. IsFirst (service_rules address) (placed_after [] seen) r) none h.refused

  found_refused : (why : ServiceWhy) (at : ℕ) → c.element.place ≡ at → new.refused ≡ Some (at, why) →
      IsOwn (service_rules address) (one_placed seen c) (Some why) → AreFound address (seen ++ c ∷ []) new
  found_refused why at here is own =
      let place : Some (c.element.place, why) ≡ new.refused = ap (λ k. Some (k, why)) here ∙ sym is in
      record {
        refused = subst (λ r. IsFirst (service_rules address) (placed_after [] (seen ++ c ∷ [])) r) place
            (first_more address seen c (Some why) before own);
        read = λ fine. let bad : Some (at, why) ≡ None = sym is ∙ fine in absurd cc;
      }

  pub found_bad : (at : ℕ) → c.element.place ≡ at → new.refused ≡ Some (at, BadLink) → target address c ≡ None →
      AreFound address (seen ++ c ∷ []) new
  found_bad at here is link = found_refused BadLink at here is (collection_bad address seen c link)

  pub found_over : (at : ℕ) → c.element.place ≡ at → new.refused ≡ Some (at, TooMany) → (href : List ℕ) →
      target address c ≡ Some href → collection_limit ≤ length old.collections.items →
      AreFound address (seen ++ c ∷ []) new
  found_over at here is href link many =
      let count = counted in
      let same = length-map seen (λ (k : Child). k.element) in
      found_refused TooMany at here is (collection_over address seen c href link (omega (arith, count, same, many)))

  pub found_more : (v : Collection) → IsCollectionOf address c v → new.refused ≡ None →
      new.collections.items ≡ old.collections.items ++ v ∷ [] → length old.collections.items < collection_limit →
      AreFound address (seen ++ c ∷ []) new
  found_more v of is put few =
      let count = counted in
      let same = length-map seen (λ (k : Child). k.element) in
      record {
        refused = subst (λ r. IsFirst (service_rules address) (placed_after [] (seen ++ c ∷ [])) r) (sym is)
            (first_more address seen c None before
            (collection_good address seen c v.href of.href (omega (arith, count, same, few))));
        read = λ fine. subst (λ cs. AllZip (IsCollectionOf address) (seen ++ c ∷ []) cs) (sym put)
            (zip_push (IsCollectionOf address) seen old.collections.items c v (h.read none) of);
      }

-- whatever comes after a refusal
pub found_past : (address : List ℕ) (seen more : List Child) (found : Found) → AreFound address seen found →
    is_some found.refused ≡ true → AreFound address (seen ++ more) found
found_past address seen more found h some =
    let G : Type 0 = AreFound address (seen ++ more) found in
    let at : (r : Option (ℕ × ServiceWhy)) → found.refused ≡ r → G = λ r. elim r as (λ r. found.refused ≡ r → G) [
      | None ↦ λ none. absurd (both_ways false refl (sym (ap is_some none) ∙ some))
      | Some refusal ↦ λ is. record {
        refused = subst (λ r. IsFirst (service_rules address) (placed_after [] (seen ++ more)) r) (sym is)
            (first_past address seen more refusal
            (subst (λ r. IsFirst (service_rules address) (placed_after [] seen) r) is h.refused));
        read = λ none. let bad : Some refusal ≡ None = sym is ∙ none in absurd cc;
      }
    ] in
    at found.refused refl

-- collections that were added, and more of them
added_more : (address : List ℕ) (start old new : Found) (before more all : List Child) →
    AreAdded address start before old → all ≡ before ++ more → ((seen : List Child) → AreFound address seen old → AreFound address (seen ++ more) new) →
    AreAdded address start all new
added_more address start old new before more all added is step seen h =
    subst (λ cs. AreFound address cs new)
    (append_assoc seen before more ∙ ap (λ k. seen ++ k) (sym is)) (step (seen ++ before) (added seen h))

found_same : (address : List ℕ) (seen : List Child) (found : Found) → AreFound address seen found →
    AreFound address (seen ++ []) found
found_same address seen found h = subst (λ cs. AreFound address cs found) (sym (append-nil seen)) h

module _ (address : List ℕ) (start old : Found) (b : Content) (e : Element) (inner : Content) where
  -- a child of a workspace that is skipped, or a collection after a refusal
  pub workspace_skipped : AreAdded address start (collections_in b) old →
      (is_some old.refused ≡ true) ⊎ (is_app (codes "collection") e.name ≡ false) →
      AreAdded address start (collections_in (with_child b e inner)) old
  workspace_skipped added why =
      let G : Type 0 = AreAdded address start (collections_in (with_child b e inner)) old in
      let other : is_app (codes "collection") e.name ≡ false → G = λ is.
      added_more address start old old (collections_in b) [] _ added
      (named_other (app (codes "collection")) b e inner is ∙ sym (append-nil (collections_in b)))
      (λ seen h. found_same address seen old h) in
      ⊎_elim
      (λ some. ⊎_elim
      (λ is. added_more address start old old (collections_in b) (the_child b e inner ∷ []) _ added
      (named_more (app (codes "collection")) b e inner is)
      (λ seen h. found_past address seen (the_child b e inner ∷ []) old h some))
      other
      (cases_Bool (is_app (codes "collection") e.name)))
      other
      why

  -- a collection
  pub workspace_more : (new : Found) → AreAdded address start (collections_in b) old →
      is_app (codes "collection") e.name ≡ true →
      ((seen : List Child) → AreFound address seen old → AreFound address (seen ++ the_child b e inner ∷ []) new) →
      AreAdded address start (collections_in (with_child b e inner)) new
  workspace_more new added is step =
      added_more address start old new (collections_in b) (the_child b e inner ∷ []) _ added
      (named_more (app (codes "collection")) b e inner is) step

  -- a child of a service that is skipped
  pub service_skipped : AreAdded address start (collections_of b) old → is_app (codes "workspace") e.name ≡ false →
      AreAdded address start (collections_of (with_child b e inner)) old
  service_skipped added is =
      added_more address start old old (collections_of b) [] _ added
      (ap (flat_map (λ (w : Child). collections_in w.content)) (named_other (app (codes "workspace")) b e inner is)
      ∙ sym (append-nil (collections_of b)))
      (λ seen h. found_same address seen old h)

  -- a workspace
  pub service_more : (new : Found) → AreAdded address start (collections_of b) old →
      is_app (codes "workspace") e.name ≡ true → AreAdded address old (collections_in (elements_only inner)) new →
      AreAdded address start (collections_of (with_child b e inner)) new
  service_more new added is inside =
      let f : Child → List Child = λ w. collections_in w.content in
      added_more address start old new (collections_of b) (collections_in inner) _ added
      (ap (flat_map f) (named_more (app (codes "workspace")) b e inner is)
      ∙ flat_map-append f (named (app (codes "workspace")) b) (the_child b e inner ∷ [])
      ∙ ap (λ k. collections_of b ++ k) (append-nil (collections_in inner)))
      (λ seen h. subst (λ cs. AreFound address (seen ++ cs) new) (only_named (app (codes "collection")) inner)
      (inside seen h))

-- what is made of the rest of an element, said otherwise
pub rest_mapped : {A : Type 0} (R S : Content → A → Type 0) (total : ℕ) (first : List Event) (from : Point)
    (new : Elements) (r : Result A TokenFault) → ((inner : Content) (a : A) → R inner a → S inner a) →
    IsRestRead R total first from r new → IsRestRead S total first from r new
rest_mapped R S total first from new (Ok a) gives x = (x.0, x.1, x.2, x.3, gives x.0 a x.4)
rest_mapped R S total first from new (Err fault) gives x = x

-- the collections of a service, by the elements of its content alone
pub only_collections : (c : Content) → collections_of (elements_only c) ≡ collections_of c
only_collections c = ap (flat_map (λ (w : Child). collections_in w.content)) (only_named (app (codes "workspace")) c)
