-- The items of an open window after one more operation.
use Rattle.std.proofs.Common.{◌≡◌, ◌≢◌, inl, inr, ℕ, ◌+◌, ◌<◌, ◌≤◌, true, false, not, List, [], ◌∷◌, ◌++◌}
use Rattle.std.proofs.Common.{length, reverse, map, set, get_or, nat_eq, slice_get, Option, Some, None, option_map}
use Rattle.std.proofs.Common.{refl, sym, ap, ◌∙◌, subst, arith, length-set}
use Rattle.std.specs.Prelude.{All}
use Rattle.std.specs.List.{IsDistinct, filter_map, cons_option}
use Rattle.std.specs.Cmp.{nat_eq_equiv}
use Rattle.std.proofs.lemmas.Bool.{cases_eq, cases_order, eq-eqb, eqb-false, ne_eqb}
use Rattle.std.proofs.lemmas.List.{reverse-append, map-set, map_push, set-get_or, get_or-set_same, get_or-set_other}
use Rattle.std.proofs.lemmas.List.{get_or_append_left, get_or_push, get_or-map, length-map, length_push}
use Rattle.std.proofs.lemmas.List.Elements.{All-nil, All-cons, All-head, All-tail, All-weaker, All-get_or, All-filter}
use Rattle.std.proofs.lemmas.List.Elements.{All-map}
use Rattle.std.proofs.lemmas.List.Folds.{list_any_none}
use Rattle.std.proofs.lemmas.Option.{slice_get-get_or, slice_get_within, get_or_from_slice_get, slice_get_cases, same_Some}
use Rattle.std.proofs.lemmas.Option.{none-some}
use Rattle.std.proofs.lemmas.Map.Keys.{apart_from_distinct, IsDistinct-push}
use Rattle.deleted_entries.specs.Item.{item_number}
use Rattle.deleted_entries.specs.declared.item.Item.{Item}
use Rattle.member_rules.specs.declared.operation.Op.{Op}
use Rattle.member_rules.specs.Items.{items_of}
use Rattle.member_rules.specs.Operation.{item_of}
use Rattle.member_rules.proofs.NewestItemsLemmas.{without, in_place, newest_items, items_of-newest}
use Rattle.recency_list.specs.Recency.{touched, without as slots_without}
use Rattle.archive_sealer.specs.Window.{AreItems, IsPut, IsSlotOf}

-- no operations have no items
pub AreItems-none : (items : List Item) (slots : List ℕ) (operations : List Op) → items ≡ [] → slots ≡ []
    → operations ≡ [] → AreItems items slots operations
unfolding items_of IsDistinct
AreItems-none items slots operations i s o = rw (i, s, o) record {
  apart = tt;
  there = All-nil (λ slot. slot < 0);
  are = refl;
}

-- the items of operations and one more that names no member
items-skip : (operations : List Op) (operation : Op) → item_of operation ≡ None
    → items_of (operations ++ operation ∷ []) ≡ items_of operations
items-skip operations operation none =
    items_of-newest (operations ++ operation ∷ [])
    ∙ ap newest_items (reverse-append operations (operation ∷ []))
    ∙ ap (λ (i : Option Item). in_place i (newest_items (reverse operations))) none
    ∙ sym (items_of-newest operations)

-- an operation that names no member leaves the items as they are
pub AreItems-skip : (items : List Item) (slots : List ℕ) (operations : List Op) → AreItems items slots operations
    → (operation : Op) → item_of operation ≡ None → AreItems items slots (operations ++ operation ∷ [])
AreItems-skip items slots operations of operation none = record {
  apart = of.apart;
  there = of.there;
  are = of.are ∙ sym (items-skip operations operation none);
}

-- the items of operations and one more
pub items-push : (operations : List Op) (operation : Op) (item : Item) → item_of operation ≡ Some item
    → items_of (operations ++ operation ∷ []) ≡ item ∷ without (item_number item) (items_of operations)
items-push operations operation item is =
    items_of-newest (operations ++ operation ∷ [])
    ∙ ap newest_items (reverse-append operations (operation ∷ []))
    ∙ ap (λ (i : Option Item). in_place i (newest_items (reverse operations))) is
    ∙ ap (λ (items : List Item). item ∷ without (item_number item) items) (sym (items_of-newest operations))

-- a listed slot has an item, which is of this member exactly if the slot is the one that the member's item was put into;
-- another slot keeps its item
record IsKeptSlot (number slot : ℕ) (before after : List Item) (other : ℕ) : Type 0 where
  old : Item
  at : slice_get before other ≡ Some old
  same : nat_eq slot other ≡ nat_eq (item_number old) number
  stays : nat_eq slot other ≡ false → slice_get after other ≡ Some old

walk-without : (number slot : ℕ) (before after : List Item) (slots : List ℕ)
    → All (IsKeptSlot number slot before after) slots
    → filter_map (slice_get after) (slots_without slot slots) ≡ without number (filter_map (slice_get before) slots)
walk-without number slot before after [] all = refl
walk-without number slot before after (other ∷ slots) all =
    let first = All-head (IsKeptSlot number slot before after) other slots all in
    let rest = walk-without number slot before after slots
    (All-tail (IsKeptSlot number slot before after) other slots all) in
    elim (cases_eq slot other) [
      | inl same ↦
          let one : nat_eq slot other ≡ true = eq-eqb slot other same in
          let here : nat_eq (item_number first.old) number ≡ true = sym first.same ∙ one in
          rw (one, first.at, here) rest
      | inr differ ↦
          let apart : nat_eq slot other ≡ false = ne_eqb slot other differ in
          let here : nat_eq (item_number first.old) number ≡ false = sym first.same ∙ apart in
          rw (apart, first.at, first.stays apart, here) (ap (λ (items : List Item). first.old ∷ items) rest)
    ]

-- the slots of items with distinct members
module _ (items : List Item) (distinct : IsDistinct nat_eq (map item_number items)) where
  number-at : (slot : ℕ) (item : Item) → slice_get items slot ≡ Some item
      → get_or (map item_number items) slot 0 ≡ item_number item
  number-at slot item at =
      get_or-map item_number items slot item 0 (slice_get_within items slot item at)
      ∙ ap item_number (get_or_from_slice_get items slot item item at)

  apart-before : (i j : ℕ) (x y : Item) → slice_get items i ≡ Some x → slice_get items j ≡ Some y → i < j
      → item_number x ≢ item_number y
  apart-before i j x y at_i at_j less =
      let within : j < length (map item_number items) =
      omega (arith, slice_get_within items j y at_j, length-map items item_number) in
      let apart = apart_from_distinct nat_eq (map item_number items) i j 0 distinct less within in
      λ same. eqb-false _ _ apart (number-at i x at_i ∙ same ∙ sym (number-at j y at_j))

  apart-at : (i j : ℕ) (x y : Item) → slice_get items i ≡ Some x → slice_get items j ≡ Some y → i ≢ j
      → item_number x ≢ item_number y
  apart-at i j x y at_i at_j differ = elim (cases_order i j) [
    | inl same ↦ absurd (differ same)
    | inr apart ↦ elim apart [
      | inl less ↦ apart-before i j x y at_i at_j less
      | inr more ↦ λ same. apart-before j i y x at_j at_i more (sym same)
    ]
  ]

-- the item of a listed slot
item-at : (items : List Item) (slot : ℕ) → slot < length items → (item : Item) × (slice_get items slot ≡ Some item)
item-at items slot less = elim (slice_get_cases items slot).1 [
  | inl at ↦ (at.0, at.2)
  | inr past ↦ absurd (omega arith)
]

-- the item of a slot with this member's number
held-at : (items : List Item) (number slot : ℕ) → IsSlotOf number items slot
    → (item : Item) × (slice_get items slot ≡ Some item) × (item_number item ≡ number)
held-at items number slot is = elim (slice_get_cases items slot).1 [
  | inl at ↦
      let same : Some (item_number at.0) ≡ Some number = ap (option_map item_number) (sym at.2) ∙ is in
      (at.0, at.2, same_Some (item_number at.0) number same)
  | inr past ↦
      let none : None ≡ Some number = ap (option_map item_number) (sym past.1) ∙ is in
      absurd (none-some number none)
]

module _ (items : List Item) (slots : List ℕ) (operations : List Op) (of : AreItems items slots operations)
    (item : Item) (after : List Item) (slot : ℕ) where
  abbrev number : ℕ
  number = item_number item

  -- in the slot of the member
  module _ (is : IsSlotOf number items slot) (put : after ≡ set items slot item) where
    held : (old : Item) × (slice_get items slot ≡ Some old) × (item_number old ≡ number)
    held = held-at items number slot is

    within : slot < length items
    within = slice_get_within items slot held.0 held.1

    replaced-slots : (other : ℕ) → other < length items → IsKeptSlot number slot items after other
    replaced-slots other less = let here = item-at items other less in elim (cases_eq slot other) [
      | inl same ↦
          let old : here.0 ≡ held.0 =
          same_Some here.0 held.0 (sym here.1 ∙ ap (slice_get items) (sym same) ∙ held.1) in
          record {
            old = here.0;
            at = here.1;
            same =
                eq-eqb slot other same ∙ sym (eq-eqb (item_number here.0) number (ap item_number old ∙ held.2));
            stays = λ apart. absurd (eqb-false slot other apart same);
          }
      | inr differ ↦
          let apart = apart-at items of.apart other slot here.0 held.0 here.1 held.1 (λ e. differ (sym e)) in
          record {
            old = here.0;
            at = here.1;
            same =
                ne_eqb slot other differ
                ∙ sym (ne_eqb (item_number here.0) number (λ e. apart (e ∙ sym held.2)));
            stays = λ _.
                ap (λ (list : List Item). slice_get list other) put
                ∙ slice_get-get_or (set items slot item) other here.0 (omega (arith, length-set items slot item))
                ∙ ap (λ (x : Item). Some x) (get_or-set_other items slot other item here.0 (λ e. differ (sym e))
                ∙ get_or_from_slice_get items other here.0 here.0 here.1);
          }
    ]

    replaced-apart : IsDistinct nat_eq (map item_number after)
    replaced-apart =
        let numbers = map item_number items in
        let same : set numbers slot number ≡ numbers =
        ap (set numbers slot) (sym (number-at items of.apart slot held.0 held.1 ∙ held.2)) ∙ set-get_or numbers slot 0 in
        subst (IsDistinct nat_eq)
        (sym (ap (map item_number) put ∙ map-set item_number items slot item ∙ same)) of.apart

    replaced-at : slice_get after slot ≡ Some item
    replaced-at =
        ap (λ (list : List Item). slice_get list slot) put
        ∙ slice_get-get_or (set items slot item) slot item (omega (arith, within, length-set items slot item))
        ∙ ap (λ (x : Item). Some x) (get_or-set_same items slot item item within)

  -- in a new slot
  module _ (none : All (λ other. item_number other ≢ number) items) (put : after ≡ items ++ item ∷ [])
      (last : slot ≡ length items) where
    added-slots : (other : ℕ) → other < length items → IsKeptSlot number slot items after other
    added-slots other less =
        let here = item-at items other less in
        let apart : item_number here.0 ≢ number =
        subst (λ (x : Item). item_number x ≢ number) (get_or_from_slice_get items other here.0 here.0 here.1)
        (All-get_or (λ x. item_number x ≢ number) items other here.0 less none) in
        record {
          old = here.0;
          at = here.1;
          same = ne_eqb slot other (λ e. omega arith) ∙ sym (ne_eqb (item_number here.0) number apart);
          stays = λ _.
              ap (λ (list : List Item). slice_get list other) put
              ∙ slice_get-get_or (items ++ item ∷ []) other here.0 (omega (arith, length_push items item))
              ∙ ap (λ (x : Item). Some x) (get_or_append_left items (item ∷ []) here.0 other less
              ∙ get_or_from_slice_get items other here.0 here.0 here.1);
        }

    added-apart : IsDistinct nat_eq (map item_number after)
    added-apart =
        let numbers = map item_number items in
        let other : All (λ n. nat_eq number n ≡ false) numbers =
        All-map (λ n. nat_eq number n ≡ false) item_number items
        (All-weaker (λ x. item_number x ≢ number) (λ x. nat_eq number (item_number x) ≡ false)
        (λ x differ. ne_eqb number (item_number x) (λ e. differ (sym e))) items none) in
        subst (IsDistinct nat_eq) (sym (ap (map item_number) put ∙ map_push item_number items item))
        (IsDistinct-push nat_eq_equiv numbers number of.apart (list_any_none (nat_eq number) numbers other))

    added-at : slice_get after slot ≡ Some item
    added-at =
        ap (λ (list : List Item). slice_get list slot) put
        ∙ slice_get-get_or (items ++ item ∷ []) slot item (omega (arith, length_push items item))
        ∙ ap (λ (x : Item). Some x) (get_or_push items item item slot (sym last))

  any-put : IsPut item items after slot → (length items ≤ length after) × (length after ≤ length items + 1)
      × (slot < length after) × IsDistinct nat_eq (map item_number after) × (slice_get after slot ≡ Some item)
      × ((other : ℕ) → other < length items → IsKeptSlot number slot items after other)
  any-put put = elim put [
    | inl old ↦
        let same : length after ≡ length items = ap length old.1 ∙ length-set items slot item in
        let less = within old.0 old.1 in (
          omega arith,
          omega arith,
          omega arith,
          replaced-apart old.0 old.1,
          replaced-at old.0 old.1,
          replaced-slots old.0 old.1,
        )
    | inr new ↦
        let longer : length after ≡ length items + 1 = ap length new.1 ∙ length_push items item in (
          omega arith,
          omega arith,
          omega (arith, new.2),
          added-apart new.0 new.1 new.2,
          added-at new.0 new.1 new.2,
          added-slots new.0 new.1 new.2,
        )
  ]

  pub put-within : IsPut item items after slot → length after ≤ length items + 1
  put-within put = (any-put put).1

  pub AreItems-put : (operation : Op) → item_of operation ≡ Some item → IsPut item items after slot
      → AreItems after (touched slot slots) (operations ++ operation ∷ [])
  AreItems-put operation is put =
      let parts = any-put put in
      let rest = slots_without slot slots in
      let kept : All (IsKeptSlot number slot items after) slots =
      All-weaker (λ s. s < length items) (IsKeptSlot number slot items after) parts.5 slots of.there in
      record {
        apart = parts.3;
        there =
            All-cons (λ s. s < length after) slot rest parts.2
            (All-filter (λ other. not (nat_eq slot other)) (λ s. s < length after) slots
            (All-weaker (λ s. s < length items) (λ s. s < length after) (λ s less. omega (arith, less, parts.0)) slots
            of.there));
        are =
            ap (λ (o : Option Item). cons_option o (filter_map (slice_get after) rest)) parts.4
            ∙ ap (λ (rest : List Item). item ∷ rest)
            (walk-without number slot items after slots kept ∙ ap (without number) of.are)
            ∙ sym (items-push operations operation item is);
      }
