-- How many live entries a map lists.
use Rattle.std.proofs.Common.{◌≡◌, ◌≢◌, inl, inr, ℕ, zero, suc, ◌+◌, ◌-◌, ◌^◌, ◌<◌, ◌≤◌, Bool, true, false}
use Rattle.std.proofs.Common.{if◌then◌else◌}
use Rattle.std.proofs.Common.{List, [], ◌∷◌, length, Option, Some, None, refl, ap, sym, ◌∙◌, arith}
use Rattle.std.specs.Prelude.{IsSome, is_some, ◌||◌}
use Rattle.std.specs.BTreeMap.{BTreeMap, get, keys, btree_map_len, IsOrdered}
use Rattle.std.specs.Cmp.{unsigned_tied, eq_by_cmp_equiv}
use Rattle.std.specs.List.{IsDistinct, AllByRecursion}
use Rattle.std.specs.Ordering.{nat_cmp, eq_by_cmp}
use Rattle.std.specs.Set.{is_member}
use Rattle.std.proofs.lemmas.Bool.{cases_eq, cases_lt, false≢true, eq-eqb, ne_eqb}
use Rattle.std.proofs.lemmas.Cmp.{nat_cmp_total}
use Rattle.std.proofs.lemmas.Map.Keys.{IsDistinct-from_sorted}
use Rattle.std.proofs.lemmas.Map.Entries.{length-keys_of}
use Rattle.std.proofs.lemmas.Map.Made.{is_some-lookup, length-from_same_keys}
use Rattle.atom_values.specs.Entry.{EntryValue}
use Rattle.atom_writer.specs.Doc.{DocValue}
use Rattle.member_rules.specs.Fold.{count_up_to}
use Rattle.member_rules.specs.Shows.{live_of, live_count_of, greatest_member}
use Rattle.member_rules.proofs.ShowsLemmas.{live_of-past}
use Rattle.mirror_walk.specs.declared.documents.EntryPlace.{EntryPlace}
use Rattle.mirror_walk.specs.Holding.{KeptValue}
use Rattle.mirror_walk.specs.Index.{AreMembers, HasEntries, ListsEntry}

-- numbers with a value, up to a bound

abbrev same : ℕ → ℕ → Bool
same = eq_by_cmp nat_cmp

-- the numbers from this one down to 1 that have a value
numbers : (ℕ → Option EntryValue) → ℕ → List ℕ
numbers live zero = []
numbers live (suc n) = if is_some (live (suc n)) then suc n ∷ numbers live n else numbers live n

length-numbers : (live : ℕ → Option EntryValue) (n : ℕ) → length (numbers live n) ≡ count_up_to live n
unfolding numbers
length-numbers live zero = refl
length-numbers live (suc n) = split (is_some (live (suc n))) (length-numbers live n)
  where
    split : (b : Bool) → length (numbers live n) ≡ count_up_to live n
        → length (if b then suc n ∷ numbers live n else numbers live n)
        ≡ (if b then count_up_to live n + 1 else count_up_to live n)
    split true h = omega arith
    split false h = h

apart : (a b : ℕ) → a ≢ b → same a b ≡ false
apart a b ne = unsigned_tied a b ∙ ne_eqb a b ne

here : (a b : ℕ) → a ≡ b → same a b ≡ true
here a b e = unsigned_tied a b ∙ eq-eqb a b e

-- no number that is greater is one of them
above : (live : ℕ → Option EntryValue) (n number : ℕ) → n < number
    → AllByRecursion (λ other. same number other ≡ false) (numbers live n)
unfolding numbers
above live zero number l = tt
above live (suc n) number l = split (is_some (live (suc n))) (above live n number (omega arith))
  where
    split : (b : Bool) → AllByRecursion (λ other. same number other ≡ false) (numbers live n)
        → AllByRecursion (λ other. same number other ≡ false)
        (if b then suc n ∷ numbers live n else numbers live n)
    split true h = (apart number (suc n) (omega arith), h)
    split false h = h

IsDistinct-numbers : (live : ℕ → Option EntryValue) (n : ℕ) → IsDistinct same (numbers live n)
unfolding numbers IsDistinct
IsDistinct-numbers live zero = tt
IsDistinct-numbers live (suc n) =
    split (is_some (live (suc n))) (above live n (suc n) (omega arith)) (IsDistinct-numbers live n)
  where
    split : (b : Bool) → AllByRecursion (λ other. same (suc n) other ≡ false) (numbers live n)
        → IsDistinct same (numbers live n)
        → IsDistinct same (if b then suc n ∷ numbers live n else numbers live n)
    split true apart h = (apart, h)
    split false apart h = h

none : (live : ℕ → Option EntryValue) (n number : ℕ) → is_some (live number) ≡ false
    → is_member same (numbers live n) number ≡ false
unfolding numbers
none live zero number off = refl
none live (suc n) number off = split (is_some (live (suc n))) refl (none live n number off)
  where
    split : (b : Bool) → is_some (live (suc n)) ≡ b → is_member same (numbers live n) number ≡ false
        → is_member same (if b then suc n ∷ numbers live n else numbers live n) number ≡ false
    split true on h =
        let other : number ≢ suc n = λ e. false≢true (sym off ∙ ap (λ k. is_some (live k)) e ∙ on) in
        rw (apart number (suc n) other) h
    split false on h = h

or_true : (a b : Bool) → b ≡ true → (a || b) ≡ true
or_true true b h = refl
or_true false b h = h

some : (live : ℕ → Option EntryValue) (n number : ℕ) → is_some (live number) ≡ true → 1 ≤ number → number ≤ n
    → is_member same (numbers live n) number ≡ true
unfolding numbers
some live zero number on low high = absurd (omega arith)
some live (suc n) number on low high = elim (cases_eq number (suc n)) [
  | inl e ↦ rw (sym (ap (λ k. is_some (live k)) e) ∙ on, here number (suc n) e) refl
  | inr other ↦ split (is_some (live (suc n))) (some live n number on low (omega arith))
]
  where
    split : (b : Bool) → is_member same (numbers live n) number ≡ true
        → is_member same (if b then suc n ∷ numbers live n else numbers live n) number ≡ true
    split true h = or_true (same number (suc n)) (is_member same (numbers live n) number) h
    split false h = h

-- the map has a value at the same numbers, from 1 up to n
pub count-of_map : {X : Type 0} (live : ℕ → Option EntryValue) (m : BTreeMap ℕ X) (n : ℕ)
    → IsOrdered nat_cmp m
    → ((number : ℕ) → is_some (get nat_cmp m number) ≡ is_some (live number))
    → ((number : ℕ) → is_some (live number) ≡ true → (1 ≤ number) × (number ≤ n))
    → btree_map_len m ≡ count_up_to live n
count-of_map live m n ordered agrees between =
    sym (length-keys_of m.entries)
    ∙ length-from_same_keys (eq_by_cmp_equiv nat_cmp_total) (keys m) (numbers live n)
    (IsDistinct-from_sorted nat_cmp (keys m) ordered) (IsDistinct-numbers live n) members
    ∙ length-numbers live n
  where
    members : (number : ℕ) → is_member same (keys m) number ≡ is_member same (numbers live n) number
    members number =
        sym (is_some-lookup (same number) m.entries) ∙ agrees number ∙ split (is_some (live number)) refl
      where
        split : (b : Bool) → is_some (live number) ≡ b → b ≡ is_member same (numbers live n) number
        split true on = let l = between number on in sym (some live n number on l.0 l.1)
        split false off = sym (none live n number off)

-- the entries of documents

-- the map has a value for each member with a live entry, and for no other
abbrev pub HasLive : {P : Type 0} → List DocValue → BTreeMap ℕ P → Type 0
HasLive documents live = (number : ℕ) → is_some (get nat_cmp live number) ≡ is_some (live_of documents number)

listed : (kept : List KeptValue) (documents : List DocValue) (number : ℕ) (place : Option EntryPlace)
    (entry : Option EntryValue) → ListsEntry kept documents number place entry → is_some place ≡ is_some entry
listed kept documents number None None h = refl
listed kept documents number None (Some entry) h = absurd h
listed kept documents number (Some place) None h = absurd h
listed kept documents number (Some place) (Some entry) h = refl

pub entries-live : (kept : List KeptValue) (documents : List DocValue) (live : BTreeMap ℕ EntryPlace)
    → HasEntries kept documents live → HasLive documents live
entries-live kept documents live entries number =
    listed kept documents number (get nat_cmp live number) (live_of documents number) (entries number)

some_from : {A : Type 0} (o : Option A) → is_some o ≡ true → IsSome o
some_from None e = absurd (false≢true e)
some_from (Some x) e = refl

members_of : {P : Type 0} (documents : List DocValue) (live : BTreeMap ℕ P) → AreMembers live
    → HasLive documents live → (number : ℕ) → is_some (live_of documents number) ≡ true
    → (1 ≤ number) × (number < 2 ^ 32)
members_of documents live members same number on =
    members number (some_from (get nat_cmp live number) (same number ∙ on))

pub len-live_count : {P : Type 0} (documents : List DocValue) (live : BTreeMap ℕ P)
    → IsOrdered nat_cmp live → AreMembers live → HasLive documents live
    → btree_map_len live ≡ live_count_of documents
unfolding live_count_of
len-live_count documents live ordered members same =
    count-of_map (live_of documents) live (greatest_member documents) ordered same between
  where
    between : (number : ℕ) → is_some (live_of documents number) ≡ true
        → (1 ≤ number) × (number ≤ greatest_member documents)
    between number on = elim (cases_lt (greatest_member documents) number) [
      | inl past ↦
          absurd (false≢true (sym (ap (λ o. is_some o) (live_of-past documents number past)) ∙ on))
      | inr within ↦ ((members_of documents live members same number on).0, within)
    ]

count-le : (live : ℕ → Option EntryValue) (n : ℕ) → count_up_to live n ≤ n
count-le live zero = omega arith
count-le live (suc n) = split (is_some (live (suc n))) (count-le live n)
  where
    split : (b : Bool) → count_up_to live n ≤ n
        → (if b then count_up_to live n + 1 else count_up_to live n) ≤ suc n
    split true h = omega arith
    split false h = omega arith

len-le : {P : Type 0} (documents : List DocValue) (live : BTreeMap ℕ P) (n : ℕ) → IsOrdered nat_cmp live
    → n + 1 ≡ 2 ^ 32 → AreMembers live → HasLive documents live → btree_map_len live ≤ n
len-le documents live n ordered bound members same =
    let all = count-of_map (live_of documents) live n ordered same
    (λ number on. let h = members_of documents live members same number on in (h.0, omega arith)) in
    omega (arith, count-le (live_of documents) n)

-- a map has at most one entry for each number of a member
pub len-lt : {P : Type 0} (documents : List DocValue) (live : BTreeMap ℕ P) → IsOrdered nat_cmp live
    → AreMembers live → HasLive documents live → btree_map_len live < 2 ^ 32
len-lt documents live ordered members same =
    omega (arith, len-le documents live (2 ^ 32 - 1) ordered refl members same)
