-- The items of a document, laid over a map of older entries one after another.
use Rattle.std.proofs.Common.{◌≡◌, ◌≢◌, inl, inr, ℕ, ◌+◌, ◌^◌, ◌<◌, ◌≤◌, true, false, nat_eq, List, []}
use Rattle.std.proofs.Common.{length, map, get_or}
use Rattle.std.proofs.Common.{Option, Some, ap, sym, ◌∙◌, subst, arith}
use Rattle.std.specs.Prelude.{IsSome, is_some, slice_get}
use Rattle.std.specs.BTreeMap.{BTreeMap, get, is_at, Updates}
use Rattle.std.specs.Cmp.{unsigned_tied}
use Rattle.std.specs.List.{IsDistinct}
use Rattle.std.specs.Map.{lookup}
use Rattle.std.specs.Option.{option_map}
use Rattle.std.specs.Ordering.{nat_cmp, eq_by_cmp}
use Rattle.std.proofs.lemmas.Bool.{cases_eq, cases_lt, false≢true, eq-eqb, ne_eqb}
use Rattle.std.proofs.lemmas.Map.Keys.{apart_from_distinct}
use Rattle.std.proofs.lemmas.Option.{slice_get-map, slice_get_within, get_or_from_slice_get, same_Some}
use Rattle.mirror_walk.specs.declared.mark.ItemMark.{ItemMark}
use Rattle.mirror_walk.specs.Index.{AreMembers, LaysOver}
use Rattle.mirror_walk.specs.Marks.{AreFromOne, marked_number}

other : (a b : ℕ) → a ≢ b → eq_by_cmp nat_cmp a b ≡ false
other a b ne = unsigned_tied a b ∙ ne_eqb a b ne

-- the items have these numbers and places
module _ {X P : Type 0} (number_of : X → ℕ) (place : ℕ → X → Option P) where
  -- the map has the places of the first `count` items, and is as before at all other numbers
  pub record LaidUpTo (items : List X) (count : ℕ) (old new : BTreeMap ℕ P) : Type 0 where
    pub named : (at : ℕ) (item : X) → at < count → slice_get items at ≡ Some item
        → get nat_cmp new (number_of item) ≡ place at item
    pub others : (number : ℕ)
        → ((at : ℕ) (item : X) → at < count → slice_get items at ≡ Some item → number_of item ≢
        number)
        → get nat_cmp new number ≡ get nat_cmp old number

  -- two items of a list with distinct numbers
  apart : (items : List X) (i j : ℕ) (a b : X) → IsDistinct nat_eq (map number_of items)
      → i < j
      → slice_get items i ≡ Some a → slice_get items j ≡ Some b → number_of a ≢ number_of b
  apart items i j a b distinct l at_i at_j e =
      let numbers = map number_of items in
      let first : get_or numbers i 0 ≡ number_of a = number_at i a at_i in
      let second : get_or numbers j 0 ≡ number_of b = number_at j b at_j in
      let within : j < length numbers = slice_get_within numbers j (number_of b) (named j b at_j) in
      let differ : nat_eq (get_or numbers i 0) (get_or numbers j 0) ≡ false =
      apart_from_distinct nat_eq numbers i j 0 distinct l within in
      let equal : nat_eq (get_or numbers i 0) (get_or numbers j 0) ≡ true = eq-eqb _ _ (first ∙ e ∙ sym second)
      in
      absurd (grind arith)
    where
      named : (k : ℕ) (item : X) → slice_get items k ≡ Some item
          → slice_get (map number_of items) k ≡ Some (number_of item)
      named k item there = slice_get-map number_of items k ∙ ap (option_map number_of) there

      number_at : (k : ℕ) (item : X) → slice_get items k ≡ Some item
          → get_or (map number_of items) k 0 ≡ number_of item
      number_at k item there = get_or_from_slice_get (map number_of items) k (number_of item) 0
          (named k item there)

  pub laid-more : (items : List X) (count : ℕ) (item : X)
      (old mid new : BTreeMap ℕ P)
      → IsDistinct nat_eq (map number_of items) → slice_get items count ≡ Some item
      → LaidUpTo items count old mid → Updates nat_cmp mid new (number_of item)
      (place count item)
      → LaidUpTo items (count + 1) old new
  laid-more items count item old mid new distinct there laid updates = record {
    named = λ at given l found. elim (cases_lt at count) [
      | inl before ↦
          let kept = updates.2 (number_of given)
          (other (number_of item) (number_of given) (λ e. apart items at count given item distinct
          before found there (sym e)))
          in kept ∙ laid.named at given before found
      | inr after ↦
          let last : at ≡ count = omega arith in
          let same : item ≡ given = same_Some item given (sym there ∙ ap (slice_get items) (sym last) ∙ found)
          in
          subst (λ i. get nat_cmp new (number_of i) ≡ place at i) same
          (updates.1 ∙ ap (λ k. place k item) (sym last))
    ];
    others = λ number h.
        updates.2 number (other (number_of item) number (h count item (omega arith) there))
        ∙ laid.others number (λ at given l found. h at given (omega arith) found);
  }

  pub LaysOver-laid : (items : List X) (old new : BTreeMap ℕ P)
      → LaidUpTo items (length items) old new → LaysOver number_of place items old new
  LaysOver-laid items old new laid = record {
    named = λ at item found. laid.named at item (slice_get_within items at item found) found;
    others = λ number all. laid.others number
        (λ at item l found. subst (λ i. number_of i ≢ number) (get_or_from_slice_get items at item item
        found)
        (all at item l));
  }

pub AreMembers-none : {P : Type 0} (live : BTreeMap ℕ P) → live.entries ≡ [] → AreMembers live
AreMembers-none live empty number there =
    absurd (false≢true (ap (λ es. is_some (lookup (is_at (nat_cmp number)) es)) (sym empty) ∙ there))

pub AreMembers-more : {P : Type 0} (number : ℕ) (place : Option P) (mid new : BTreeMap ℕ P)
    → (1 ≤ number) × (number < 2 ^ 32) → Updates nat_cmp mid new number place → AreMembers mid
    → AreMembers new
AreMembers-more number place mid new within updates members named there = elim (cases_eq number named) [
  | inl same ↦ subst (λ k. (1 ≤ k) × (k < 2 ^ 32)) same within
  | inr differ ↦ members named (subst IsSome (updates.2 named (other number named differ)) there)
]

pub from_one-at : (marks : List ItemMark) (at : ℕ) (mark : ItemMark) → AreFromOne marks
    → slice_get marks at ≡ Some mark
    → 1 ≤ marked_number mark
from_one-at marks at mark all there =
    subst (λ (m : ItemMark). 1 ≤ marked_number m) (get_or_from_slice_get marks at mark mark there)
    (all at mark (slice_get_within marks at mark there))
