-- The `accept` children of a collection.
use Rattle.std.proofs.Common.{◌≡◌, List, [], ◌∷◌, ◌++◌, Bool, true, false, refl, sym, ap, ◌∙◌, codes}
use Rattle.std.specs.Prelude.{is_some, not, ◌||◌}
use Rattle.std.specs.List.{list_any}
use Rattle.std.proofs.lemmas.List.Folds.{list_any-append}
use Rattle.xml_tokens.specs.Tree.{Element, Content}
use Rattle.xml_tokens.specs.Children.{Child, first_of, named, with_child}
use Rattle.xml_tokens.specs.Names.{app}
use Rattle.feed_reader.specs.Feed.{cut_text}
use Rattle.feed_reader.specs.Rest.{elements_only}
use Rattle.feed_reader.proofs.ChildrenLemmas.{only_named}
use Rattle.feed_reader.proofs.FeedPartLemmas.{the_child}
use Rattle.feed_reader.proofs.NamedLemmas.{named_more, named_other}
use Rattle.service_reader.specs.declared.accept.Accepts.{Accepts}
use Rattle.service_reader.specs.Service.{do_accept_entries, is_app, is_entry_accept, is_entry_type, takes_entries}
use Rattle.service_reader.specs.ServiceReading.{AreAccepted}

or_nothing : (x : Bool) → (x || false) ≡ x
or_nothing true = refl
or_nothing false = refl

some_more : (xs : List Child) (c : Child) → is_some (first_of (xs ++ c ∷ [])) ≡ true
some_more [] c = refl
some_more (x ∷ xs) c = refl

module _ (b : Content) (e : Element) (inner : Content) where
  -- another child
  pub accepted_other : (accepts : Accepts) → is_app (codes "accept") e.name ≡ false → AreAccepted b accepts →
      AreAccepted (with_child b e inner) accepts
  accepted_other accepts other h =
      let same = sym (named_other (app (codes "accept")) b e inner other) in
      record {
        any = h.any ∙ ap (λ cs. is_some (first_of cs)) same;
        entry = h.entry ∙ ap (list_any is_entry_accept) same;
      }

  -- an `accept`
  pub accepted_more : (old new : Accepts) → is_app (codes "accept") e.name ≡ true → AreAccepted b old →
      new.any ≡ true → new.entry ≡ (old.entry || is_entry_type (cut_text (the_child b e inner))) →
      AreAccepted (with_child b e inner) new
  accepted_more old new is h any entry =
      let cs = named (app (codes "accept")) b in
      let c = the_child b e inner in
      let more = named_more (app (codes "accept")) b e inner is in
      record {
        any = any ∙ sym (ap (λ ks. is_some (first_of ks)) more ∙ some_more cs c);
        entry = entry ∙ ap (λ k. k || is_entry_accept c) h.entry
            ∙ sym (ap (list_any is_entry_accept) more ∙ list_any-append is_entry_accept cs (c ∷ [])
            ∙ ap (λ k. list_any is_entry_accept cs || k) (or_nothing (is_entry_accept c)));
      }

do_accept : (cs : List Child) (any entry : Bool) → any ≡ is_some (first_of cs) → entry ≡ list_any is_entry_accept cs →
    (not any || entry) ≡ do_accept_entries cs
do_accept [] any entry is one = ap (λ k. not k || entry) is
do_accept (c ∷ cs) any entry is one = ap (λ k. not k || entry) is ∙ one

-- whether the collection takes entries, by the elements of its content alone
pub accepted_takes : (e : Element) (inner : Content) (accepts : Accepts) → AreAccepted (elements_only inner) accepts →
    (not accepts.any || accepts.entry) ≡ takes_entries (record { element = e; content = inner })
accepted_takes e inner accepts h =
    do_accept (named (app (codes "accept")) (elements_only inner)) accepts.any accepts.entry h.any h.entry
    ∙ ap do_accept_entries (only_named (app (codes "accept")) inner)
