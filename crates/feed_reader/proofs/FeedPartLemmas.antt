-- The parts of feeds and entries that are read so far, child by child.
use Rattle.std.proofs.Common.{◌≡◌, ◌⊎◌, ◌≤◌, List, [], ◌∷◌, ◌++◌, length, map, filter, Bool, true, false}
use Rattle.std.proofs.Common.{cond, Option, Some, None, option_map, refl, sym, ap, subst, ◌∙◌, arith, inl, inr, ⊎_elim}
use Rattle.std.proofs.Common.{codes}
use Rattle.std.specs.Prelude.{find, is_some, option_and_then, ◌||◌}
use Rattle.std.specs.List.{AllZip, list_any}
use Rattle.std.proofs.lemmas.Bool.{both_ways, cases_Bool, cond-false, cond-true, or_right}
use Rattle.std.specs.Prelude.{◌&&◌}
use Rattle.feed_reader.specs.declared.entry.EntryParts.{EntryParts}
use Rattle.feed_reader.specs.declared.parts.FeedParts.{FeedParts}
use Rattle.feed_reader.specs.declared.text.Required.{Required}
use Rattle.xml_tokens.specs.Tree.{Name, Element, Content}
use Rattle.xml_tokens.specs.Children.{Child, children, first_of, named, named_in, same_name, with_child}
use Rattle.xml_tokens.specs.Names.{atom, tombstones}
use Rattle.xml_tokens.specs.Order.{IsFirst, count_before}
use Rattle.feed_reader.specs.Feed.{IsEntryOf, IsGoneOf, cut_text, is_prev, target, whole_text}
use Rattle.feed_reader.specs.FeedFaults.{Within, feed_rules, is_prev_link}
use Rattle.feed_reader.specs.FeedFaults.Within.{in_entry, in_feed}
use Rattle.feed_reader.specs.FeedReading.{AreNoted, IsEntrySoFar, IsFeedSoFar, IsMoment}
use Rattle.feed_reader.specs.Rest.{elements_only}
use Rattle.feed_reader.proofs.ChildrenLemmas.{only_named, only_placed}
use Rattle.feed_reader.proofs.NamedLemmas.{name_is}
use Rattle.xml_tokens.proofs.OrderLemmas.{elements_of}
use Rattle.feed_reader.proofs.NamedLemmas.{named_more, named_other}

module _ (c : Content) where
  same : (name : Name) → named name (elements_only c) ≡ named name c
  same name = only_named name c

  noted : (required : Required) → AreNoted (elements_only c) required → AreNoted c required
  noted required h = record {
    id = subst (λ cs. required.id ≡ is_some (first_of cs)) (same (atom (codes "id"))) h.id;
    updated = subst (λ cs. required.updated ≡ is_some (first_of cs)) (same (atom (codes "updated"))) h.updated;
  }

  -- what is read of the elements of a content is read of it
  pub entry_whole : (parts : EntryParts) → IsEntrySoFar (elements_only c) parts → IsEntrySoFar c parts
  entry_whole parts h = record {
    required = noted parts.required h.required;
    refused = λ address. subst (λ xs. IsFirst (feed_rules address) xs parts.refused)
        (only_placed (feed_rules address) in_entry [] c) (h.refused address);
    read = λ none.
        let r = h.read none in
        record {
          id = subst (λ cs. parts.id ≡ option_map cut_text (first_of cs)) (same (atom (codes "id"))) r.id;
          title = subst (λ cs. parts.title ≡ option_map whole_text (first_of cs)) (same (atom (codes "title"))) r.title;
          updated = subst (λ cs. IsMoment (first_of cs) parts.updated) (same (atom (codes "updated"))) r.updated;
          id_rules = r.id_rules;
          title_rules = r.title_rules;
        };
  }

  pub feed_whole : (parts : FeedParts) → IsFeedSoFar (elements_only c) parts → IsFeedSoFar c parts
  feed_whole parts h =
      let address = parts.address.now in
      record {
        required = noted parts.required h.required;
        refused = subst (λ xs. IsFirst (feed_rules address) xs parts.refused)
            (only_placed (feed_rules address) in_feed [] c) h.refused;
        read = λ none.
            let r = h.read none in
            record {
              id = subst (λ cs. parts.id ≡ option_map cut_text (first_of cs)) (same (atom (codes "id"))) r.id;
              updated = subst (λ cs. IsMoment (first_of cs) parts.updated) (same (atom (codes "updated"))) r.updated;
              prev = subst (λ cs. parts.prev ≡ option_and_then (target address) (find is_prev cs))
                  (same (atom (codes "link"))) r.prev;
              linked = subst (λ cs. is_some parts.prev ≡ is_some (find is_prev cs)) (same (atom (codes "link"))) r.linked;
              entries = subst (λ cs. AllZip IsEntryOf cs parts.entries.items) (same (atom (codes "entry"))) r.entries;
              gone = subst (λ cs. AllZip IsGoneOf cs parts.gone.items)
                  (same (tombstones (codes "deleted-entry"))) r.gone;
              id_rules = r.id_rules;
              entry_rules = r.entry_rules;
              gone_rules = r.gone_rules;
            };
      }

-- items and one more
pub zip_push : {A B : Type 0} (R : A → B → Type 0) (xs : List A) (ys : List B) (x : A) (y : B) → AllZip R xs ys → R x y →
    AllZip R (xs ++ x ∷ []) (ys ++ y ∷ [])
zip_push R [] [] x y all one = (one, tt)
zip_push R [] (b ∷ ys) x y all one = absurd all
zip_push R (a ∷ xs) [] x y all one = absurd all
zip_push R (a ∷ xs) (b ∷ ys) x y all one = (all.0, zip_push R xs ys x y all.1 one)

pub zip_length : {A B : Type 0} (R : A → B → Type 0) (xs : List A) (ys : List B) → AllZip R xs ys → length xs ≡ length ys
zip_length R [] [] all = refl
zip_length R [] (b ∷ ys) all = absurd all
zip_length R (a ∷ xs) [] all = absurd all
zip_length R (a ∷ xs) (b ∷ ys) all = let more = zip_length R xs ys all.1 in omega arith

-- the elements of a name, counted
count_in : (n : Name) (cs : List Child) →
    length (filter (λ (e : Element). same_name e.name n) (map (λ (c : Child). c.element) cs)) ≡ length (named_in n cs)
count_in n [] = refl
count_in n (c ∷ cs) =
    let rest = filter (λ (e : Element). same_name e.name n) (map (λ (c : Child). c.element) cs) in
    elim (same_name c.element.name n) as (λ t. length (cond t (c.element ∷ rest) rest)
    ≡ length (cond t (c ∷ named_in n cs) (named_in n cs)))
    [ true ↦ (let more = count_in n cs in omega arith) | false ↦ count_in n cs ]

-- the first link to the archive before, as an element
pub any_prev : (cs : List Child) → list_any is_prev_link (map (λ (c : Child). c.element) cs)
    ≡ is_some (find is_prev (named_in (atom (codes "link")) cs))
any_prev [] = refl
any_prev (c ∷ cs) =
    elim (same_name c.element.name (atom (codes "link"))) as (λ t.
    ((t && is_prev c) || list_any is_prev_link (map (λ (c : Child). c.element) cs))
    ≡ is_some (find is_prev (cond t (c ∷ named_in (atom (codes "link")) cs) (named_in (atom (codes "link")) cs)))) [
      | true ↦ elim (is_prev c) as (λ u. (u || list_any is_prev_link (map (λ (c : Child). c.element) cs))
          ≡ is_some (cond u (Some c) (find is_prev (named_in (atom (codes "link")) cs))))
          [ true ↦ refl | false ↦ any_prev cs ]
      | false ↦ any_prev cs
    ]

pub find_last : (xs : List Child) (c : Child) → find is_prev xs ≡ None →
    find is_prev (xs ++ c ∷ []) ≡ cond (is_prev c) (Some c) None
find_last [] c none = refl
find_last (x ∷ xs) c none =
    ⊎_elim
    (λ t. let bad : Some x ≡ None = sym (cond-true (is_prev x) (Some x) (find is_prev xs) t) ∙ none in absurd cc)
    (λ f. cond-false (is_prev x) (Some x) (find is_prev (xs ++ c ∷ [])) f
    ∙ find_last xs c (sym (cond-false (is_prev x) (Some x) (find is_prev xs) f) ∙ none))
    (cases_Bool (is_prev x))

find_found : (xs : List Child) (c : Child) → is_some (find is_prev xs) ≡ true →
    find is_prev (xs ++ c ∷ []) ≡ find is_prev xs
find_found [] c some = absurd (both_ways false refl some)
find_found (x ∷ xs) c some =
    ⊎_elim
    (λ t. cond-true (is_prev x) (Some x) (find is_prev (xs ++ c ∷ [])) t
    ∙ sym (cond-true (is_prev x) (Some x) (find is_prev xs) t))
    (λ f. cond-false (is_prev x) (Some x) (find is_prev (xs ++ c ∷ [])) f
    ∙ find_found xs c (sym (ap is_some (cond-false (is_prev x) (Some x) (find is_prev xs) f)) ∙ some)
    ∙ sym (cond-false (is_prev x) (Some x) (find is_prev xs) f))
    (cases_Bool (is_prev x))

none_found : (o : Option Child) → is_some o ≡ false → o ≡ None
none_found None f = refl
none_found (Some x) f = absurd (both_ways true f refl)

-- a child that isn't the first link to the archive before
pub find_kept : (xs : List Child) (c : Child) → (is_some (find is_prev xs) ≡ true) ⊎ (is_prev c ≡ false) →
    find is_prev (xs ++ c ∷ []) ≡ find is_prev xs
find_kept xs c (inl some) = find_found xs c some
find_kept xs c (inr other) =
    ⊎_elim
    (λ t. find_found xs c t)
    (λ f. let none : find is_prev xs ≡ None = none_found (find is_prev xs) f in
    find_last xs c none ∙ cond-false (is_prev c) (Some c) None other ∙ sym none)
    (cases_Bool (is_some (find is_prev xs)))

none_first : (xs : List Child) → is_some (first_of xs) ≡ false → xs ≡ []
none_first [] is = refl
none_first (x ∷ xs) is = absurd (both_ways true is refl)

some_first : (xs : List Child) → is_some (first_of xs) ≡ true → 1 ≤ length xs
some_first [] is = absurd (both_ways false refl is)
some_first (x ∷ xs) is = omega arith

first_more : (xs : List Child) (c : Child) → is_some (first_of (xs ++ c ∷ [])) ≡ true
first_more [] c = refl
first_more (x ∷ xs) c = refl

or_nothing : (x : Bool) → (x || false) ≡ x
or_nothing true = refl
or_nothing false = refl

some_mapped : {A B : Type 0} (f : A → B) (o : Option A) → is_some (option_map f o) ≡ is_some o
some_mapped f None = refl
some_mapped f (Some x) = refl

module _ (b : Content) (e : Element) (inner : Content) where
  abbrev pub the_child : Child
  the_child = record { element = e; content = inner }

  pub child_other : (name : Name) → same_name e.name name ≡ false →
      first_of (named name (with_child b e inner)) ≡ first_of (named name b)
  child_other name other = ap first_of (named_other name b e inner other)

  -- the first child of a name
  pub child_new : (name : Name) → same_name e.name name ≡ true → is_some (first_of (named name b)) ≡ false →
      first_of (named name (with_child b e inner)) ≡ Some the_child
  child_new name is none =
      ap first_of (named_more name b e inner is ∙ ap (λ cs. cs ++ the_child ∷ []) (none_first (named name b) none))

  some_child : (name : Name) → is_some (first_of (named name (with_child b e inner)))
      ≡ (is_some (first_of (named name b)) || same_name e.name name)
  some_child name =
      ⊎_elim
      (λ t. ap (λ cs. is_some (first_of cs)) (named_more name b e inner t) ∙ first_more (named name b) the_child
      ∙ sym (or_right (is_some (first_of (named name b))) (same_name e.name name) t))
      (λ f. ap is_some (child_other name f)
      ∙ sym (ap (λ k. is_some (first_of (named name b)) || k) f ∙ or_nothing (is_some (first_of (named name b)))))
      (cases_Bool (same_name e.name name))

  -- a child is noted
  pub noted_child : (old new : Required) → AreNoted b old →
      new.id ≡ (old.id || same_name e.name (atom (codes "id"))) →
      new.updated ≡ (old.updated || same_name e.name (atom (codes "updated"))) → AreNoted (with_child b e inner) new
  noted_child old new h id updated = record {
    id = id ∙ ap (λ k. k || same_name e.name (atom (codes "id"))) h.id ∙ sym (some_child (atom (codes "id")));
    updated = updated ∙ ap (λ k. k || same_name e.name (atom (codes "updated"))) h.updated
        ∙ sym (some_child (atom (codes "updated")));
  }

  -- how many children of its name are before it
  pub count_child : (within : Within) (name : Name) → same_name e.name name ≡ true →
      count_before {Place = Within} (record { within = within; before = elements_of b; child = the_child })
      ≡ length (named name b)
  count_child within name is = count_in e.name (children b) ∙ ap (λ n. length (named n b)) (name_is e.name name is)

  pub count_none : (within : Within) (name : Name) → same_name e.name name ≡ true →
      is_some (first_of (named name b)) ≡ false →
      count_before {Place = Within} (record { within = within; before = elements_of b; child = the_child }) ≡ 0
  count_none within name is none = count_child within name is ∙ ap length (none_first (named name b) none)

  pub count_some : (within : Within) (name : Name) → same_name e.name name ≡ true →
      is_some (first_of (named name b)) ≡ true →
      1 ≤ count_before {Place = Within} (record { within = within; before = elements_of b; child = the_child })
  count_some within name is some =
      let same = count_child within name is in
      let one = some_first (named name b) some in
      omega (arith, same, one)
