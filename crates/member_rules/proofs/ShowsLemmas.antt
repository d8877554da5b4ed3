-- A list of documents shows the newest item of a member.
use Rattle.std.proofs.Common.{◌≡◌, ◌≢◌, ◌↔◌, inl, inr, ℕ, zero, suc, ◌<◌, ◌≤◌, ◌==◌, false, nat_eq, List, [], ◌∷◌, ◌++◌}
use Rattle.std.proofs.Common.{length, map, get_or, Option, Some, None, refl, ap, sym, ◌∙◌, subst, arith}
use Rattle.std.specs.Prelude.{All, Any, Contains, max, fold}
use Rattle.std.specs.List.{IsDistinct, AllByRecursion, find}
use Rattle.std.specs.Option.{option_or}
use Rattle.std.proofs.lemmas.List.Elements.{All-nil, All-cons, All-head, All-tail}
use Rattle.std.proofs.lemmas.List.Folds.{find-append}
use Rattle.std.proofs.lemmas.List.Concat.{flat_map-cons}
use Rattle.std.proofs.lemmas.Bool.{cases_eq, eq-eqb, ne_eqb}
use Rattle.std.proofs.Math.Nat.{le-max_left, le-max_right}
use Rattle.atom_values.specs.Entry.{EntryValue}
use Rattle.atom_writer.specs.Doc.{DocValue, IsDoc}
use Rattle.deleted_entries.specs.Item.{item_number}
use Rattle.deleted_entries.specs.declared.item.Item.{Item}
use Rattle.deleted_entries.specs.declared.item.Item.TheVariants.{Kept, Gone}
use Rattle.member_rules.specs.Shows.{HasItemOf, Shows, entry_of, all_items, greatest_member, live_of}
use Rattle.member_rules.proofs.ItemsLemmas.{item_in, or_else}

-- items and `item_in`

-- an item of the member in a list of items is the one that `item_in` returns
pub Contains-item_in : (number : ℕ) (items : List Item) (item : Item) → item_in number items ≡ Some item
    → Contains items item × (item_number item ≡ number)
Contains-item_in number [] item e = absurd (grind arith)
Contains-item_in number (first ∷ items) item e = elim (cases_eq number (item_number first)) [
  | inl same ↦
      let found : Some first ≡ Some item = rw (eq-eqb number (item_number first) same) at e in
      let it : first ≡ item = cc in
      ((0, omega arith, it), subst (λ (i : Item). item_number i ≡ number) it (sym same))
  | inr other ↦
      let rest : item_in number items ≡ Some item = rw (ne_eqb number (item_number first) other) at e in
      let found = Contains-item_in number items item rest in
      ((suc found.0.0, omega (arith, found.0.1), found.0.2), found.1)
]

none-item_in : (number : ℕ) (items : List Item) → item_in number items ≡ None
    → ¬ Any (λ item. item_number item ≡ number) items
none-item_in number [] e any = absurd (omega (arith, any.2))
none-item_in number (first ∷ items) e any = elim (cases_eq number (item_number first)) [
  | inl same ↦
      let found : Some first ≡ None = rw (eq-eqb number (item_number first) same) at e in
      absurd (grind arith)
  | inr other ↦
      let rest : item_in number items ≡ None = rw (ne_eqb number (item_number first) other) at e in
      go (none-item_in number items) any.0 any.1 any.2 any.3 any.4 other rest
]
  where
    go : (item_in number items ≡ None → ¬ Any (λ item. item_number item ≡ number) items) → (k : ℕ) (x : Item)
        → k < length (first ∷ items) → get_or (first ∷ items) k x ≡ x → item_number x ≡ number
        → number ≢ item_number first → item_in number items ≡ None → ⊥
    go behind zero x l at named other rest = other (sym named ∙ ap item_number (sym at))
    go behind (suc k) x l at named other rest = behind rest (k, x, omega arith, at, named)

any-item_in : (number : ℕ) (items : List Item) → ¬ Any (λ item. item_number item ≡ number) items
    → item_in number items ≡ None
any-item_in number [] n = refl
any-item_in number (first ∷ items) n = elim (cases_eq number (item_number first)) [
  | inl same ↦ absurd (n (0, first, omega arith, refl, sym same))
  | inr other ↦
      rw (ne_eqb number (item_number first) other)
      (any-item_in number items (λ any. n (suc any.0, any.1, omega (arith, any.2), any.3, any.4)))
]

apart-at : (number : ℕ) (items : List Item) (k : ℕ) (d : Item)
    → AllByRecursion (λ y. nat_eq number y ≡ false) (map item_number items) → k < length items
    → nat_eq number (item_number (get_or items k d)) ≡ false
apart-at number [] k d h l = absurd (omega arith)
apart-at number (item ∷ items) zero d h l = h.0
apart-at number (item ∷ items) (suc k) d h l = apart-at number items k d h.1 (omega arith)

-- where members are distinct, each item is the first of its member
item_in-Contains : (items : List Item) (item : Item) → IsDistinct nat_eq (map item_number items) → Contains items item
    → item_in (item_number item) items ≡ Some item
unfolding IsDistinct
item_in-Contains [] item h c = absurd (omega (arith, c.1))
item_in-Contains (first ∷ items) item h c = go (item_in-Contains items item h.1) c.0 c.1 c.2
  where
    go : (Contains items item → item_in (item_number item) items ≡ Some item) → (k : ℕ) → k < length (first ∷ items)
        → get_or (first ∷ items) k item ≡ item → item_in (item_number item) (first ∷ items) ≡ Some item
    go behind zero l at = rw (eq-eqb (item_number item) (item_number first) (ap item_number (sym at)))
        (ap (λ (i : Item). Some i) at)
    go behind (suc k) l at =
        let apart : nat_eq (item_number first) (item_number item) ≡ false =
        subst (λ (i : Item). nat_eq (item_number first) (item_number i) ≡ false) at
        (apart-at (item_number first) items k item h.0 (omega arith)) in
        let other : item_number item ≢ item_number first =
        λ e. grind (arith, eq-eqb (item_number first) (item_number item) (sym e)) in
        rw (ne_eqb (item_number item) (item_number first) other) (behind (k, omega arith, at))

-- documents

-- the newest item of the member in a list of documents, newest first
unfoldable pub shown : ℕ → List DocValue → Option Item
shown number [] = None
shown number (document ∷ older) = or_else (item_in number document.items) (shown number older)

shown-behind : (number : ℕ) (newer older : List DocValue) → All (λ other. ¬ HasItemOf number other) newer
    → shown number (newer ++ older) ≡ shown number older
unfolding shown
shown-behind number [] older h = refl
shown-behind number (document ∷ newer) older h =
    rw (any-item_in number document.items (All-head (λ other. ¬ HasItemOf number other) document newer h))
    (shown-behind number newer older (All-tail (λ other. ¬ HasItemOf number other) document newer h))

distinct-behind : (newer : List DocValue) (document : DocValue) (older : List DocValue)
    → AllByRecursion (λ d. IsDistinct nat_eq (map item_number d.items)) (newer ++ document ∷ older)
    → IsDistinct nat_eq (map item_number document.items)
distinct-behind [] document older h = h.0
distinct-behind (first ∷ newer) document older h = distinct-behind newer document older h.1

pub shown-from_Shows : (documents : List DocValue) (number : ℕ) (entry : EntryValue)
    → AllByRecursion (λ d. IsDistinct nat_eq (map item_number d.items)) documents → Shows documents number entry
    → shown number documents ≡ Some (Kept entry)
unfolding shown
shown-from_Shows documents number entry h shows =
    let distinct = distinct-behind shows.newer shows.document shows.older
    (subst (AllByRecursion (λ d. IsDistinct nat_eq (map item_number d.items))) shows.split h) in
    let first : item_in number shows.document.items ≡ Some (Kept entry) =
    subst (λ (n : ℕ). item_in n shows.document.items ≡ Some (Kept entry)) shows.member
    (item_in-Contains shows.document.items (Kept entry) distinct shows.kept) in
    ap (shown number) shows.split
    ∙ shown-behind number shows.newer (shows.document ∷ shows.older) shows.newest
    ∙ ap (λ (o : Option Item). or_else o (shown number shows.older)) first

Shows-behind : (document : DocValue) (documents : List DocValue) (number : ℕ) (entry : EntryValue)
    → item_in number document.items ≡ None → Shows documents number entry → Shows (document ∷ documents) number entry
Shows-behind document documents number entry none shows = record {
  newer = document ∷ shows.newer;
  document = shows.document;
  older = shows.older;
  split = ap (λ (ds : List DocValue). document ∷ ds) shows.split;
  kept = shows.kept;
  member = shows.member;
  newest = All-cons (λ other. ¬ HasItemOf number other) document shows.newer (none-item_in number document.items none)
      shows.newest;
}

Shows-here : (document : DocValue) (documents : List DocValue) (number : ℕ) (entry : EntryValue)
    → item_in number document.items ≡ Some (Kept entry) → Shows (document ∷ documents) number entry
Shows-here document documents number entry e =
    let found = Contains-item_in number document.items (Kept entry) e in
    record {
      newer = [];
      document = document;
      older = documents;
      split = refl;
      kept = found.0;
      member = found.1;
      newest = All-nil (λ other. ¬ HasItemOf number other);
    }

pub Shows-from_shown : (documents : List DocValue) (number : ℕ) (entry : EntryValue)
    → shown number documents ≡ Some (Kept entry) → Shows documents number entry
unfolding shown
Shows-from_shown [] number entry e = absurd (grind arith)
Shows-from_shown (document ∷ documents) number entry e =
    go (Shows-from_shown documents number entry) (item_in number document.items) refl e
  where
    go : (shown number documents ≡ Some (Kept entry) → Shows documents number entry) → (o : Option Item)
        → item_in number document.items ≡ o → or_else o (shown number documents) ≡ Some (Kept entry)
        → Shows (document ∷ documents) number entry
    go behind None same h = Shows-behind document documents number entry same (behind h)
    go behind (Some item) same h = Shows-here document documents number entry (same ∙ h)

-- `live_of`

find-item_in : (number : ℕ) (items : List Item) → find (λ item. item_number item == number) items ≡ item_in number items
find-item_in number [] = refl
find-item_in number (item ∷ items) = elim (cases_eq number (item_number item)) [
  | inl same ↦ rw (eq-eqb number (item_number item) same, eq-eqb (item_number item) number (sym same)) refl
  | inr other ↦ rw (ne_eqb number (item_number item) other, ne_eqb (item_number item) number (λ e. other (sym e)))
      (find-item_in number items)
]

or_else-is : (a b : Option Item) → option_or a b ≡ or_else a b
or_else-is None b = refl
or_else-is (Some item) b = refl

find-shown : (number : ℕ) (documents : List DocValue)
    → find (λ item. item_number item == number) (all_items documents) ≡ shown number documents
unfolding shown
find-shown number [] = refl
find-shown number (document ∷ older) =
    ap (find (λ item. item_number item == number)) (flat_map-cons (λ (d : DocValue). d.items) document older)
    ∙ find-append (λ item. item_number item == number) document.items (all_items older)
    ∙ or_else-is (find (λ item. item_number item == number) document.items)
    (find (λ item. item_number item == number) (all_items older))
    ∙ ap (λ (o : Option Item). or_else o (find (λ item. item_number item == number) (all_items older)))
    (find-item_in number document.items)
    ∙ ap (or_else (item_in number document.items)) (find-shown number older)

pub live_of-shown : (documents : List DocValue) (number : ℕ)
    → live_of documents number ≡ entry_of (shown number documents)
unfolding live_of
live_of-shown documents number = ap entry_of (find-shown number documents)

pub entry_of-kept : (item : Option Item) (entry : EntryValue) → entry_of item ≡ Some entry → item ≡ Some (Kept entry)
entry_of-kept None entry e = absurd (grind arith)
entry_of-kept (Some (Kept other)) entry e = let same : other ≡ entry = cc in ap (λ (x : EntryValue). Some (Kept x)) same
entry_of-kept (Some (Gone tombstone)) entry e = absurd (grind arith)

distinct-docs : (documents : List DocValue) → All IsDoc documents
    → AllByRecursion (λ d. IsDistinct nat_eq (map item_number d.items)) documents
distinct-docs [] h = tt
distinct-docs (document ∷ documents) h = (
  (All-head IsDoc document documents h).rules.distinct,
  distinct-docs documents (All-tail IsDoc document documents h),
)

pub live_of-is_shown : (documents : List DocValue) (number : ℕ) (entry : EntryValue) → All IsDoc documents
    → Shows documents number entry ↔ (live_of documents number ≡ Some entry)
live_of-is_shown documents number entry all = (
  λ shows. live_of-shown documents number ∙ ap entry_of
      (shown-from_Shows documents number entry (distinct-docs documents all) shows),
  λ e. Shows-from_shown documents number entry (entry_of-kept (shown number documents) entry
      (sym (live_of-shown documents number) ∙ e)),
)

-- no item has a number past the greatest

abbrev greater : ℕ → Item → ℕ
greater greatest item = max greatest (item_number item)

at_least : (greatest : ℕ) (items : List Item) → greatest ≤ fold greater greatest items
at_least greatest [] = omega arith
at_least greatest (item ∷ items) = omega (
  arith,
  le-max_left greatest (item_number item),
  at_least (max greatest (item_number item)) items,
)

find-past : (number greatest : ℕ) (items : List Item) → fold greater greatest items < number
    → find (λ item. item_number item == number) items ≡ None
find-past number greatest [] l = refl
find-past number greatest (item ∷ items) l =
    let other : item_number item ≢ number = λ e. absurd
    (omega (arith, e, le-max_right greatest (item_number item), at_least (max greatest (item_number item)) items))
    in
    rw (ne_eqb (item_number item) number other) (find-past number (max greatest (item_number item)) items l)

pub live_of-past : (documents : List DocValue) (number : ℕ) → greatest_member documents < number
    → live_of documents number ≡ None
unfolding live_of
live_of-past documents number l = ap entry_of (find-past number 0 (all_items documents) l)
