-- The parts of an entry that were read so far, child by child.
use Rattle.std.proofs.Common.{◌≡◌, ◌≤◌, ℕ, List, [], ◌∷◌, ◌++◌, length, map, Bool, true, false, Option, Some}
use Rattle.std.proofs.Common.{None}
use Rattle.std.proofs.Common.{option_map, refl, sym, ap, subst, ◌∙◌, arith, inl, codes}
use Rattle.std.specs.Prelude.{is_some, ℤ, Result, Ok, Err}
use Rattle.std.proofs.lemmas.Bool.{both_ways, false_from_ne_true}
use Rattle.std.specs.List.{list_all}
use Rattle.std.proofs.lemmas.List.{length-map, map-append}
use Rattle.atom_values.specs.Space.{trimmed}
use Rattle.xml_tokens.specs.declared.elements.Elements.{Elements}
use Rattle.entry_reader.specs.declared.entry.Parts.{Parts}
use Rattle.entry_reader.specs.declared.fault.EarlyEnd.{EarlyEnd}
use Rattle.entry_reader.specs.declared.fault.Why.TheVariants.{Twice}
use Rattle.xml_tokens.specs.Tree.{Name, Element, Content, Event}
use Rattle.entry_reader.specs.Entry.{IsMoment, category, construct}
use Rattle.xml_tokens.specs.Children.{Child, child, child_text, children}
use Rattle.xml_tokens.specs.Names.{app, atom}
use Rattle.entry_reader.specs.Entry.{link, person}
use Rattle.xml_tokens.specs.Children.{first_of, named, same_name, text_of}
use Rattle.entry_reader.specs.Faults.{Within, IsRefusalIn, constructs, entry_rules, is_one_of, persons, single_parts}
use Rattle.entry_reader.specs.Faults.Within.{in_entry}
use Rattle.xml_tokens.specs.Progress.{Point}
use Rattle.entry_reader.specs.Parts.{IsConstructMade, IsDateMade, IsFaultlessIn, IsItemMade, IsPartRead, IsSlot}
use Rattle.entry_reader.specs.Parts.{IsSoFar, count_of, elements_of, other_names}
use Rattle.xml_tokens.specs.Children.{with_child}
use Rattle.entry_reader.proofs.ChildLemmas.{all_of, no_list, own_faultless}
use Rattle.entry_reader.proofs.FieldLemmas.{count_named, name_is, same_refl}
use Rattle.entry_reader.proofs.ItemLemmas.{beside_faultless}
use Rattle.entry_reader.proofs.PlacedLemmas.{named_more, named_other}
use Rattle.xml_tokens.proofs.OrderLemmas.{first_with_child}

-- a part that is read, of which more can be said
pub part_mapped : {A : Type 0} (total : ℕ) (first : List Event) (from : Point) (within : Within) (before : List Element)
    (e : Element) (R S : Content → A → Type 0) (r : Result A EarlyEnd) (new : Elements) →
    IsPartRead total first from within before e R r new → ((inner : Content) (v : A) → R inner v → S inner v) →
    IsPartRead total first from within before e S r new
part_mapped total first from within before e R S (Ok v) new x more = (x.0, x.1, x.2, x.3, more x.0 v x.4)
part_mapped total first from within before e R S (Err stop) new x more = x

-- the names of an entry's parts
abbrev pub part_names : List (List ℕ)
part_names = constructs ++ other_names

-- a slot and the children of its name
slot_named : (n : Name) (b : Content) (taken : Bool) → taken ≡ is_some (first_of (named n b)) →
    IsSlot n (elements_of b) taken
slot_named n b taken is =
    let count : count_of n (elements_of b) ≡ length (named n b) = count_named n (children b) in
    let at : (xs : List Child) → length xs ≡ count_of n (elements_of b) → taken ≡ is_some (first_of xs) →
    IsSlot n (elements_of b) taken = λ xs.
    elim xs as (λ xs. length xs ≡ count_of n (elements_of b) → taken ≡ is_some (first_of xs) →
    IsSlot n (elements_of b) taken) [
      | [] ↦ λ long same. ((λ t. absurd (both_ways taken same t)), (λ f. sym long))
      | x ∷ xs ↦ λ long same.
          let one : 1 ≤ length (x ∷ xs) = omega arith in
          ((λ t. omega arith), (λ f. absurd (both_ways taken f same)))
    ] in at (named n b) (sym count) is

mapped_some : {A : Type 0} (f : Child → A) (o : Option Child) → is_some (option_map f o) ≡ is_some o
mapped_some f None = refl
mapped_some f (Some c) = refl

moment_some : (o : Option Child) (moment : Option ℤ) → IsMoment o moment → is_some moment ≡ is_some o
moment_some None moment none = ap is_some none
moment_some (Some c) moment some = ap is_some some.1

pub slot_mapped : {A : Type 0} (f : Child → A) (name n : Name) (b : Content) (o : Option A) → name ≡ n →
    o ≡ option_map f (first_of (named n b)) → IsSlot name (elements_of b) (is_some o)
slot_mapped f name n b o same is =
    subst (λ k. IsSlot k (elements_of b) (is_some o)) (sym same)
    (slot_named n b (is_some o) (ap is_some is ∙ mapped_some f (first_of (named n b))))

pub slot_moment : (name n : Name) (b : Content) (o : Option ℤ) → name ≡ n → IsMoment (first_of (named n b)) o →
    IsSlot name (elements_of b) (is_some o)
slot_moment name n b o same is =
    subst (λ k. IsSlot k (elements_of b) (is_some o)) (sym same)
    (slot_named n b (is_some o) (moment_some (first_of (named n b)) o is))

-- a list and the children of its name
pub items_counted : {A : Type 0} (make : Child → A) (name n : Name) (b : Content) (items : List A) → name ≡ n →
    items ≡ map make (named n b) → length items ≡ count_of name (elements_of b)
items_counted make name n b items same is =
    ap length is ∙ length-map (named n b) make ∙ sym (count_named n (children b))
    ∙ ap (λ k. count_of k (elements_of b)) (sym same)

-- an element of another name than those of an entry's parts
pub other_faultless : (before : List Element) (e : Element) (inner : Content) → is_one_of part_names e.name ≡ false →
    same_name e.name (app (codes "control")) ≡ false → IsFaultlessIn in_entry before e inner
other_faultless before e inner none control =
    let other : (locals : List (List ℕ)) → list_all (λ l. is_one_of part_names (atom l)) locals ≡ true →
    is_one_of locals e.name ≡ false = λ locals all.
    false_from_ne_true (is_one_of locals e.name) (λ is.
    both_ways (is_one_of part_names e.name) none (all_of (is_one_of part_names) locals e.name is all)) in
    let person = other persons refl in
    let link = other (codes "link" ∷ []) refl in
    let category = other (codes "category" ∷ []) refl in
    beside_faultless before e inner (other single_parts refl) person
    (λ p. both_ways (same_name e.name (app (codes "control"))) control p.1)
    (λ p. no_list before e inner person link category p) (λ p. no_list before e inner person link category p)

module _ (b : Content) (e : Element) (inner : Content) where
  abbrev pub the_child : Child
  the_child = record { element = e; content = inner }

  -- a child that is no second one is the first of its name
  pub first_of_name : (n : Name) → e.name ≡ n → is_one_of single_parts n ≡ true →
      IsFaultlessIn in_entry (elements_of b) e inner → first_of (named n (with_child b e inner)) ≡ Some the_child
  first_of_name n is single all =
      let own = own_faultless (elements_of b) e inner all in
      let count : count_of e.name (elements_of b) ≡ length (named n b) =
      ap (λ m. count_of m (elements_of b)) is ∙ count_named n (children b) in
      let same : same_name e.name n ≡ true = ap (λ k. same_name k n) is ∙ same_refl n in
      let at : (xs : List Child) → count_of e.name (elements_of b) ≡ length xs →
      first_of (xs ++ the_child ∷ []) ≡ Some the_child = λ xs.
      elim xs as (λ xs. count_of e.name (elements_of b) ≡ length xs →
      first_of (xs ++ the_child ∷ []) ≡ Some the_child) [
        | [] ↦ λ long. refl
        | x ∷ xs ↦ λ long.
            let some : 1 ≤ length (x ∷ xs) = omega arith in
            let more : 1 ≤ count_of e.name (elements_of b) = omega arith in
            absurd (own Twice (inl (refl, ap (is_one_of single_parts) is ∙ single), more))
      ] in ap first_of (named_more n b e inner same) ∙ at (named n b) count

  -- one more item of a list
  pub items_more : {A : Type 0} (make : Child → A) (n : Name) (old new : List A) → e.name ≡ n →
      old ≡ map make (named n b) → new ≡ old ++ make the_child ∷ [] → new ≡ map make (named n (with_child b e inner))
  items_more make n old new is were are =
      let same : same_name e.name n ≡ true = ap (λ k. same_name k n) is ∙ same_refl n in
      are ∙ ap (λ xs. xs ++ make the_child ∷ []) were ∙ sym (map-append make (named n b) (the_child ∷ []))
      ∙ ap (map make) (sym (named_more n b e inner same))

  faultless_more : IsRefusalIn in_entry [] b None → IsFaultlessIn in_entry (elements_of b) e inner →
      IsRefusalIn in_entry [] (with_child b e inner) None
  faultless_more before own = first_with_child entry_rules in_entry b e inner None None before own

  -- the parts that a child with this name leaves as they are
  record AreKept (n : Name) (parts : Parts) : Type 0 where
    id : same_name n (atom (codes "id")) ≡ false →
        parts.id ≡ option_map (λ k. trimmed (child_text k)) (child (codes "id") (with_child b e inner))
    title : same_name n (atom (codes "title")) ≡ false →
        parts.title ≡ option_map construct (child (codes "title") (with_child b e inner))
    updated : same_name n (atom (codes "updated")) ≡ false →
        IsMoment (child (codes "updated") (with_child b e inner)) parts.updated
    published : same_name n (atom (codes "published")) ≡ false →
        IsMoment (child (codes "published") (with_child b e inner)) parts.published
    authors : same_name n (atom (codes "author")) ≡ false →
        parts.authors.items ≡ map person (named (atom (codes "author")) (with_child b e inner))
    contributors : same_name n (atom (codes "contributor")) ≡ false →
        parts.contributors.items ≡ map person (named (atom (codes "contributor")) (with_child b e inner))
    links : same_name n (atom (codes "link")) ≡ false →
        parts.links.items ≡ map link (named (atom (codes "link")) (with_child b e inner))
    categories : same_name n (atom (codes "category")) ≡ false →
        parts.categories.items ≡ map category (named (atom (codes "category")) (with_child b e inner))
    rights : same_name n (atom (codes "rights")) ≡ false →
        parts.rights ≡ option_map construct (child (codes "rights") (with_child b e inner))
    summary : same_name n (atom (codes "summary")) ≡ false →
        parts.summary ≡ option_map construct (child (codes "summary") (with_child b e inner))
    content : same_name n (atom (codes "content")) ≡ false →
        parts.content ≡ option_map construct (child (codes "content") (with_child b e inner))

  kept : (n : Name) (parts : Parts) → e.name ≡ n → IsSoFar b parts → AreKept n parts
  kept n parts is so =
      let same : (m : Name) → same_name n m ≡ false → named m b ≡ named m (with_child b e inner) = λ m apart.
      sym (named_other m b e inner (ap (λ k. same_name k m) is ∙ apart)) in
      record {
        id = λ apart.
            so.id ∙ ap (λ xs. option_map (λ k. trimmed (child_text k)) (first_of xs)) (same (atom (codes "id")) apart);
        title = λ apart. so.title ∙ ap (λ xs. option_map construct (first_of xs)) (same (atom (codes "title")) apart);
        updated = λ apart.
            subst (λ xs. IsMoment (first_of xs) parts.updated) (same (atom (codes "updated")) apart) so.updated;
        published = λ apart.
            subst (λ xs. IsMoment (first_of xs) parts.published) (same (atom (codes "published")) apart) so.published;
        authors = λ apart. so.authors ∙ ap (map person) (same (atom (codes "author")) apart);
        contributors = λ apart. so.contributors ∙ ap (map person) (same (atom (codes "contributor")) apart);
        links = λ apart. so.links ∙ ap (map link) (same (atom (codes "link")) apart);
        categories = λ apart. so.categories ∙ ap (map category) (same (atom (codes "category")) apart);
        rights = λ apart.
            so.rights ∙ ap (λ xs. option_map construct (first_of xs)) (same (atom (codes "rights")) apart);
        summary = λ apart.
            so.summary ∙ ap (λ xs. option_map construct (first_of xs)) (same (atom (codes "summary")) apart);
        content = λ apart.
            so.content ∙ ap (λ xs. option_map construct (first_of xs)) (same (atom (codes "content")) apart);
      }

  pub so_far_id : (old new : Parts) → e.name ≡ atom (codes "id") → IsSoFar b old →
      new ≡ record old { id = Some (trimmed (text_of inner)) } → IsFaultlessIn in_entry (elements_of b) e inner →
      IsSoFar (with_child b e inner) new
  so_far_id old new is so same own =
      let k = kept (atom (codes "id")) old is so in
      subst (IsSoFar (with_child b e inner)) (sym same) (record {
        id = sym (ap (option_map (λ k. trimmed (child_text k))) (first_of_name (atom (codes "id")) is refl own));
        title = k.title refl;
        updated = k.updated refl;
        published = k.published refl;
        authors = k.authors refl;
        contributors = k.contributors refl;
        links = k.links refl;
        categories = k.categories refl;
        rights = k.rights refl;
        summary = k.summary refl;
        content = k.content refl;
        faultless = faultless_more so.faultless own;
      })

  pub so_far_title : (old new : Parts) → e.name ≡ atom (codes "title") → IsSoFar b old →
      new ≡ record old { title = new.title } → IsConstructMade (elements_of b) e new.title inner tt →
      IsSoFar (with_child b e inner) new
  so_far_title old new is so same made =
      let k = kept (atom (codes "title")) old is so in
      subst (IsSoFar (with_child b e inner)) (sym same) (record {
        id = k.id refl;
        title = made.0 ∙ sym (ap (option_map construct) (first_of_name (atom (codes "title")) is refl made.1));
        updated = k.updated refl;
        published = k.published refl;
        authors = k.authors refl;
        contributors = k.contributors refl;
        links = k.links refl;
        categories = k.categories refl;
        rights = k.rights refl;
        summary = k.summary refl;
        content = k.content refl;
        faultless = faultless_more so.faultless made.1;
      })

  pub so_far_updated : (old new : Parts) → e.name ≡ atom (codes "updated") → IsSoFar b old →
      new ≡ record old { updated = new.updated } → IsDateMade (elements_of b) e new.updated inner tt →
      IsSoFar (with_child b e inner) new
  so_far_updated old new is so same made =
      let k = kept (atom (codes "updated")) old is so in
      subst (IsSoFar (with_child b e inner)) (sym same) (record {
        id = k.id refl;
        title = k.title refl;
        updated = subst (λ o. IsMoment o new.updated)
            (sym (first_of_name (atom (codes "updated")) is refl made.1)) made.0;
        published = k.published refl;
        authors = k.authors refl;
        contributors = k.contributors refl;
        links = k.links refl;
        categories = k.categories refl;
        rights = k.rights refl;
        summary = k.summary refl;
        content = k.content refl;
        faultless = faultless_more so.faultless made.1;
      })

  pub so_far_published : (old new : Parts) → e.name ≡ atom (codes "published") → IsSoFar b old →
      new ≡ record old { published = new.published } → IsDateMade (elements_of b) e new.published inner tt →
      IsSoFar (with_child b e inner) new
  so_far_published old new is so same made =
      let k = kept (atom (codes "published")) old is so in
      subst (IsSoFar (with_child b e inner)) (sym same) (record {
        id = k.id refl;
        title = k.title refl;
        updated = k.updated refl;
        published = subst (λ o. IsMoment o new.published)
            (sym (first_of_name (atom (codes "published")) is refl made.1)) made.0;
        authors = k.authors refl;
        contributors = k.contributors refl;
        links = k.links refl;
        categories = k.categories refl;
        rights = k.rights refl;
        summary = k.summary refl;
        content = k.content refl;
        faultless = faultless_more so.faultless made.1;
      })

  pub so_far_authors : (old new : Parts) → e.name ≡ atom (codes "author") → IsSoFar b old →
      new ≡ record old { authors = new.authors } →
      IsItemMade person (elements_of b) e old.authors.items new.authors.items inner tt →
      IsSoFar (with_child b e inner) new
  so_far_authors old new is so same made =
      let k = kept (atom (codes "author")) old is so in
      subst (IsSoFar (with_child b e inner)) (sym same) (record {
        id = k.id refl;
        title = k.title refl;
        updated = k.updated refl;
        published = k.published refl;
        authors = items_more person (atom (codes "author")) old.authors.items new.authors.items is so.authors made.0;
        contributors = k.contributors refl;
        links = k.links refl;
        categories = k.categories refl;
        rights = k.rights refl;
        summary = k.summary refl;
        content = k.content refl;
        faultless = faultless_more so.faultless made.1;
      })

  pub so_far_contributors : (old new : Parts) → e.name ≡ atom (codes "contributor") → IsSoFar b old →
      new ≡ record old { contributors = new.contributors } →
      IsItemMade person (elements_of b) e old.contributors.items new.contributors.items inner tt →
      IsSoFar (with_child b e inner) new
  so_far_contributors old new is so same made =
      let k = kept (atom (codes "contributor")) old is so in
      subst (IsSoFar (with_child b e inner)) (sym same) (record {
        id = k.id refl;
        title = k.title refl;
        updated = k.updated refl;
        published = k.published refl;
        authors = k.authors refl;
        contributors = items_more person (atom (codes "contributor")) old.contributors.items
            new.contributors.items is so.contributors made.0;
        links = k.links refl;
        categories = k.categories refl;
        rights = k.rights refl;
        summary = k.summary refl;
        content = k.content refl;
        faultless = faultless_more so.faultless made.1;
      })

  pub so_far_links : (old new : Parts) → e.name ≡ atom (codes "link") → IsSoFar b old →
      new ≡ record old { links = new.links } →
      IsItemMade link (elements_of b) e old.links.items new.links.items inner tt →
      IsSoFar (with_child b e inner) new
  so_far_links old new is so same made =
      let k = kept (atom (codes "link")) old is so in
      subst (IsSoFar (with_child b e inner)) (sym same) (record {
        id = k.id refl;
        title = k.title refl;
        updated = k.updated refl;
        published = k.published refl;
        authors = k.authors refl;
        contributors = k.contributors refl;
        links = items_more link (atom (codes "link")) old.links.items new.links.items is so.links made.0;
        categories = k.categories refl;
        rights = k.rights refl;
        summary = k.summary refl;
        content = k.content refl;
        faultless = faultless_more so.faultless made.1;
      })

  pub so_far_categories : (old new : Parts) → e.name ≡ atom (codes "category") → IsSoFar b old →
      new ≡ record old { categories = new.categories } →
      IsItemMade category (elements_of b) e old.categories.items new.categories.items inner tt →
      IsSoFar (with_child b e inner) new
  so_far_categories old new is so same made =
      let k = kept (atom (codes "category")) old is so in
      subst (IsSoFar (with_child b e inner)) (sym same) (record {
        id = k.id refl;
        title = k.title refl;
        updated = k.updated refl;
        published = k.published refl;
        authors = k.authors refl;
        contributors = k.contributors refl;
        links = k.links refl;
        categories = items_more category (atom (codes "category")) old.categories.items
            new.categories.items is so.categories made.0;
        rights = k.rights refl;
        summary = k.summary refl;
        content = k.content refl;
        faultless = faultless_more so.faultless made.1;
      })

  pub so_far_rights : (old new : Parts) → e.name ≡ atom (codes "rights") → IsSoFar b old →
      new ≡ record old { rights = new.rights } → IsConstructMade (elements_of b) e new.rights inner tt →
      IsSoFar (with_child b e inner) new
  so_far_rights old new is so same made =
      let k = kept (atom (codes "rights")) old is so in
      subst (IsSoFar (with_child b e inner)) (sym same) (record {
        id = k.id refl;
        title = k.title refl;
        updated = k.updated refl;
        published = k.published refl;
        authors = k.authors refl;
        contributors = k.contributors refl;
        links = k.links refl;
        categories = k.categories refl;
        rights = made.0 ∙ sym (ap (option_map construct) (first_of_name (atom (codes "rights")) is refl made.1));
        summary = k.summary refl;
        content = k.content refl;
        faultless = faultless_more so.faultless made.1;
      })

  pub so_far_summary : (old new : Parts) → e.name ≡ atom (codes "summary") → IsSoFar b old →
      new ≡ record old { summary = new.summary } → IsConstructMade (elements_of b) e new.summary inner tt →
      IsSoFar (with_child b e inner) new
  so_far_summary old new is so same made =
      let k = kept (atom (codes "summary")) old is so in
      subst (IsSoFar (with_child b e inner)) (sym same) (record {
        id = k.id refl;
        title = k.title refl;
        updated = k.updated refl;
        published = k.published refl;
        authors = k.authors refl;
        contributors = k.contributors refl;
        links = k.links refl;
        categories = k.categories refl;
        rights = k.rights refl;
        summary = made.0 ∙ sym (ap (option_map construct) (first_of_name (atom (codes "summary")) is refl made.1));
        content = k.content refl;
        faultless = faultless_more so.faultless made.1;
      })

  pub so_far_content : (old new : Parts) → e.name ≡ atom (codes "content") → IsSoFar b old →
      new ≡ record old { content = new.content } → IsConstructMade (elements_of b) e new.content inner tt →
      IsSoFar (with_child b e inner) new
  so_far_content old new is so same made =
      let k = kept (atom (codes "content")) old is so in
      subst (IsSoFar (with_child b e inner)) (sym same) (record {
        id = k.id refl;
        title = k.title refl;
        updated = k.updated refl;
        published = k.published refl;
        authors = k.authors refl;
        contributors = k.contributors refl;
        links = k.links refl;
        categories = k.categories refl;
        rights = k.rights refl;
        summary = k.summary refl;
        content = made.0 ∙ sym (ap (option_map construct) (first_of_name (atom (codes "content")) is refl made.1));
        faultless = faultless_more so.faultless made.1;
      })

  -- a child that is no part of the entry
  pub so_far_beside : (parts : Parts) → IsSoFar b parts → IsFaultlessIn in_entry (elements_of b) e inner →
      is_one_of part_names e.name ≡ false → IsSoFar (with_child b e inner) parts
  so_far_beside parts so own none =
      let k = kept e.name parts refl so in
      let other : (local : List ℕ) → is_one_of part_names (atom local) ≡ true →
      same_name e.name (atom local) ≡ false = λ local part.
      false_from_ne_true (same_name e.name (atom local)) (λ same.
      both_ways (is_one_of part_names e.name) none
      (ap (is_one_of part_names) (name_is e.name (atom local) same) ∙ part)) in
      record {
        id = k.id (other (codes "id") refl);
        title = k.title (other (codes "title") refl);
        updated = k.updated (other (codes "updated") refl);
        published = k.published (other (codes "published") refl);
        authors = k.authors (other (codes "author") refl);
        contributors = k.contributors (other (codes "contributor") refl);
        links = k.links (other (codes "link") refl);
        categories = k.categories (other (codes "category") refl);
        rights = k.rights (other (codes "rights") refl);
        summary = k.summary (other (codes "summary") refl);
        content = k.content (other (codes "content") refl);
        faultless = faultless_more so.faultless own;
      }
