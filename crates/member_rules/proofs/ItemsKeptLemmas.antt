-- Laws of the items of a list of operations: there are no more of them than operations, their members are distinct,
-- and each keeps what the operations' types do.
use Rattle.std.proofs.Common.{◌≡◌, inl, inr, ℕ, suc, ◌+◌, ◌-◌, ◌≤◌, Bool, true, false, not, nat_eq, List, [], ◌∷◌}
use Rattle.std.proofs.Common.{length, reverse, map, Option, Some, None, ℤ, sym, subst, arith}
use Rattle.std.specs.Prelude.{filter, All, IfSome, if◌then◌else◌}
use Rattle.std.specs.List.{IsDistinct, AllByRecursion}
use Rattle.std.proofs.lemmas.List.{reverse-append, length-reverse}
use Rattle.std.proofs.lemmas.List.Elements.{All-nil, All-cons, All-head, All-tail, All-append, All-filter, All-get_or}
use Rattle.std.proofs.lemmas.Bool.{cases_eq, eq-eqb, ne_eqb}
use Rattle.std.proofs.lemmas.Option.{slice_get_cases}
use Rattle.atom_values.specs.Stamp.{IsStamp}
use Rattle.deleted_entries.specs.Item.{item_number, IsItem}
use Rattle.deleted_entries.specs.declared.item.Item.{Item}
use Rattle.member_rules.specs.declared.operation.Op.{Op}
use Rattle.member_rules.specs.declared.operation.Op.TheVariants.{Add, Change, Remove, Set}
use Rattle.member_rules.specs.Operation.{item_of, moment_of, IsOperation}
use Rattle.member_rules.specs.Fold.{last_moment}
use Rattle.member_rules.specs.Items.{items_of}
use Rattle.member_rules.proofs.NewestItemsLemmas.{without, in_place, newest_items, items_of-newest}

-- how many

filter-shorter : {X : Type 0} (test : X → Bool) (xs : List X) → length (filter test xs) ≤ length xs
filter-shorter test [] = omega arith
filter-shorter test (x ∷ xs) = let rest = filter-shorter test xs in go (test x) rest
  where
    go : (b : Bool) → length (filter test xs) ≤ length xs
        → length (if b then x ∷ filter test xs else filter test xs) ≤ suc (length xs)
    go true h = omega arith
    go false h = omega arith

in_place-length : (item : Option Item) (older : List Item) (n : ℕ) → length older ≤ n
    → length (in_place item older) ≤ n + 1
in_place-length None older n h = omega arith
in_place-length (Some item) older n h = omega
    (arith, filter-shorter (λ (other : Item). not (nat_eq (item_number other) (item_number item))) older)

newest-length : (operations : List Op) → length (newest_items operations) ≤ length operations
newest-length [] = omega arith
newest-length (operation ∷ older) = omega (
  arith,
  in_place-length (item_of operation) (newest_items older) (length older) (newest-length older),
)

pub items-length : (operations : List Op) → length (items_of operations) ≤ length operations
items-length operations = rw (items_of-newest operations)
    (omega (arith, newest-length (reverse operations), length-reverse operations))

-- distinct members

apart-filter : (number : ℕ) (test : Item → Bool) (items : List Item)
    → AllByRecursion (λ y. nat_eq number y ≡ false) (map item_number items)
    → AllByRecursion (λ y. nat_eq number y ≡ false) (map item_number (filter test items))
apart-filter number test [] h = tt
apart-filter number test (item ∷ items) h = go (test item) h.0 (apart-filter number test items h.1)
  where
    go : (b : Bool) → nat_eq number (item_number item) ≡ false
        → AllByRecursion (λ y. nat_eq number y ≡ false) (map item_number (filter test items))
        → AllByRecursion (λ y. nat_eq number y ≡ false)
        (map item_number (if b then item ∷ filter test items else filter test items))
    go true h0 h1 = (h0, h1)
    go false h0 h1 = h1

distinct-filter : (test : Item → Bool) (items : List Item) → IsDistinct nat_eq (map item_number items)
    → IsDistinct nat_eq (map item_number (filter test items))
unfolding IsDistinct
distinct-filter test [] h = tt
distinct-filter test (item ∷ items) h = go (test item) (apart-filter (item_number item) test items h.0)
    (distinct-filter test items h.1)
  where
    go : (b : Bool) → AllByRecursion (λ y. nat_eq (item_number item) y ≡ false) (map item_number (filter test items))
        → IsDistinct nat_eq (map item_number (filter test items))
        → IsDistinct nat_eq (map item_number (if b then item ∷ filter test items else filter test items))
    go true h0 h1 = (h0, h1)
    go false h0 h1 = h1

apart-without : (number : ℕ) (items : List Item)
    → AllByRecursion (λ y. nat_eq number y ≡ false) (map item_number (without number items))
apart-without number [] = tt
apart-without number (item ∷ items) = elim (cases_eq (item_number item) number) [
  | inl e ↦ rw (eq-eqb (item_number item) number e) (apart-without number items)
  | inr n ↦
      let apart : nat_eq number (item_number item) ≡ false = ne_eqb number (item_number item) (λ same. n (sym same)) in
      rw (ne_eqb (item_number item) number n) (apart, apart-without number items)
]

in_place-distinct : (item : Option Item) (older : List Item) → IsDistinct nat_eq (map item_number older)
    → IsDistinct nat_eq (map item_number (in_place item older))
unfolding IsDistinct
in_place-distinct None older h = h
in_place-distinct (Some item) older h = (
  apart-without (item_number item) older,
  distinct-filter (λ (other : Item). not (nat_eq (item_number other) (item_number item))) older h,
)

pub newest-distinct : (operations : List Op) → IsDistinct nat_eq (map item_number (newest_items operations))
unfolding IsDistinct
newest-distinct [] = tt
newest-distinct (operation ∷ older) = in_place-distinct (item_of operation) (newest_items older) (newest-distinct older)

pub items-distinct : (operations : List Op) → IsDistinct nat_eq (map item_number (items_of operations))
items-distinct operations = rw (items_of-newest operations) (newest-distinct (reverse operations))

-- the invariants of the types

item_of-keeps : (operation : Op) → IsOperation operation → IfSome (item_of operation) IsItem
item_of-keeps (Add entry) h = h
item_of-keeps (Change entry) h = h
item_of-keeps (Remove removal) h = h.tombstone
item_of-keeps (Set setting moment) h = tt

in_place-each : (Q : Item → Type 0) (item : Option Item) (older : List Item) → IfSome item Q → All Q older
    → All Q (in_place item older)
in_place-each Q None older h hs = hs
in_place-each Q (Some item) older h hs = All-cons Q item (without (item_number item) older) h
    (All-filter (λ (other : Item). not (nat_eq (item_number other) (item_number item))) Q older hs)

newest-each : (P : Op → Type 0) (Q : Item → Type 0) → ((operation : Op) → P operation → IfSome (item_of operation) Q)
    → (operations : List Op) → All P operations → All Q (newest_items operations)
newest-each P Q keeps [] h = All-nil Q
newest-each P Q keeps (operation ∷ older) h =
    in_place-each Q (item_of operation) (newest_items older)
    (keeps operation (All-head P operation older h))
    (newest-each P Q keeps older (All-tail P operation older h))

All-reverse : {X : Type 0} (P : X → Type 0) (xs : List X) → All P xs → All P (reverse xs)
All-reverse P [] h = All-nil P
All-reverse P (x ∷ xs) h =
    rw (reverse-append (x ∷ []) xs) (All-append P (reverse xs) (x ∷ []) (All-reverse P xs (All-tail P x xs h))
    (All-cons P x [] (All-head P x xs h) (All-nil P)))

-- each of the items has a property that each operation's item has
pub items-each : (P : Op → Type 0) (Q : Item → Type 0)
    → ((operation : Op) → P operation → IfSome (item_of operation) Q) → (operations : List Op) → All P operations
    → All Q (items_of operations)
items-each P Q keeps operations h = rw (items_of-newest operations)
    (newest-each P Q keeps (reverse operations) (All-reverse P operations h))

pub items-keep : (operations : List Op) → All IsOperation operations → All IsItem (items_of operations)
items-keep operations h = items-each IsOperation IsItem item_of-keeps operations h

moment-keeps : (operation : Op) → IsOperation operation → IsStamp (moment_of operation)
moment-keeps (Add entry) h = h.edited
moment-keeps (Change entry) h = h.edited
moment-keeps (Remove removal) h = h.moment
moment-keeps (Set setting moment) h = h.1

pub last_moment-keeps : (created : ℤ) (operations : List Op) → IsStamp created → All IsOperation operations
    → IsStamp (last_moment created operations)
last_moment-keeps created operations h hs = elim (slice_get_cases operations (length operations - 1)).1 [
  | inl at ↦ rw at.2 (moment-keeps at.0 (subst IsOperation at.3
      (All-get_or IsOperation operations (length operations - 1) at.0 at.1 hs)))
  | inr past ↦ rw past.1 h
]
