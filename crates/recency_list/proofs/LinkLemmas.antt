-- What a write to a slot leaves of the links between slots.
use Rattle.std.proofs.Common.{◌≡◌, ◌≢◌, inl, inr, ◌⊎◌, ℕ, zero, suc, ◌<◌, ◌≤◌, List, [], ◌∷◌, ◌++◌, true, false, ◌||◌, nat_eq, Option, Some, None, length, set, refl, sym, ap, subst, ◌∙◌, arith}
use Rattle.std.proofs.lemmas.Bool.{cases_Bool, eqb-true, eqb-false, false≢true}
use Rattle.std.proofs.lemmas.List.{get_or-set_same, get_or-set_other, length-set}
use Rattle.std.proofs.lemmas.Option.{none-some, same_Some}
use Rattle.std.specs.List.{IsDistinct, list_any}
use Rattle.std.specs.Option.{ForSome}
use Rattle.recency_list.specs.Links.{slot_at, unlisted, facing_newer_at, facing_older_at}
use Rattle.recency_list.specs.Links.{AreLinked, IsLinked, first_or, followed}
use Rattle.recency_list.specs.declared.slots.Slot.{Slot}
use Rattle.recency_list.proofs.ApartLemmas.{Absent, AreApart, apart_back}

-- the last slot of a list, or the one before the list
abbrev pub last_or : Option ℕ → List ℕ → Option ℕ
last_or before [] = before
last_or before (x ∷ xs) = last_or (Some x) xs

pub differs : (k x : ℕ) → nat_eq k x ≡ false → x ≢ k
differs k x h = λ e. eqb-false k x h (sym e)

pub length-facing_newer_at : (at value : Option ℕ) (slots : List Slot)
    → length (facing_newer_at at value slots) ≡ length slots
length-facing_newer_at None value slots = refl
length-facing_newer_at (Some at) value slots = length-set slots at (record (slot_at slots at) { newer = value })

pub length-facing_older_at : (at value : Option ℕ) (slots : List Slot)
    → length (facing_older_at at value slots) ≡ length slots
length-facing_older_at None value slots = refl
length-facing_older_at (Some at) value slots = length-set slots at (record (slot_at slots at) { older = value })

-- the link of another slot, after a write to a slot
elsewhere : (slots : List Slot) (at x : ℕ) (slot : Slot) (newer older : Option ℕ) → x ≢ at
    → IsLinked slots x newer older → IsLinked (set slots at slot) x newer older
elsewhere slots at x slot newer older n l = record {
  exists = subst (λ k. x < k) (sym (length-set slots at slot)) l.exists;
  is = get_or-set_other slots at x slot unlisted n ∙ l.is;
}

-- the link of a slot, after a write to it
pub link_here : (slots : List Slot) (at : ℕ) (newer older : Option ℕ) → at < length slots
    → IsLinked (set slots at (record { newer = newer; older = older })) at newer older
link_here slots at newer older low = record {
  exists = subst (λ k. at < k) (sym (length-set slots at (record { newer = newer; older = older }))) low;
  is = get_or-set_same slots at (record { newer = newer; older = older }) unlisted low;
}

-- a write to a slot elsewhere
pub frame : (slots : List Slot) (at : ℕ) (slot : Slot) (before : Option ℕ) (xs : List ℕ) (behind : Option ℕ)
    → Absent at xs → AreLinked slots before xs behind → AreLinked (set slots at slot) before xs behind
frame slots at slot before [] behind a l = tt
frame slots at slot before (x ∷ xs) behind a l = (
  elsewhere slots at x slot before (first_or xs behind) (differs at x a.0) l.0,
  frame slots at slot (Some x) xs behind a.1 l.1,
)

first_or-append : (xs ys : List ℕ) (behind : Option ℕ) → first_or (xs ++ ys) behind ≡ first_or xs (first_or ys behind)
first_or-append [] ys behind = refl
first_or-append (x ∷ xs) ys behind = refl

pub linked_join : (slots : List Slot) (before : Option ℕ) (xs ys : List ℕ) (behind : Option ℕ)
    → AreLinked slots before xs (first_or ys behind) → AreLinked slots (last_or before xs) ys behind
    → AreLinked slots before (xs ++ ys) behind
linked_join slots before [] ys behind l m = m
linked_join slots before (x ∷ xs) ys behind l m =
    (subst (IsLinked slots x before) (sym (first_or-append xs ys behind)) l.0, linked_join slots (Some x) xs ys behind l.1 m)

pub linked_front : (slots : List Slot) (before : Option ℕ) (xs ys : List ℕ) (behind : Option ℕ)
    → AreLinked slots before (xs ++ ys) behind → AreLinked slots before xs (first_or ys behind)
linked_front slots before [] ys behind l = tt
linked_front slots before (x ∷ xs) ys behind l =
    (subst (IsLinked slots x before) (first_or-append xs ys behind) l.0, linked_front slots (Some x) xs ys behind l.1)

pub linked_back : (slots : List Slot) (before : Option ℕ) (xs ys : List ℕ) (behind : Option ℕ)
    → AreLinked slots before (xs ++ ys) behind → AreLinked slots (last_or before xs) ys behind
linked_back slots before [] ys behind l = l
linked_back slots before (x ∷ xs) ys behind l = linked_back slots (Some x) xs ys behind l.1

-- a slot outside a part, whose last slot gets another older neighbour
last_apart : (slots : List Slot) (value : Option ℕ) (at x : ℕ) (xs : List ℕ) → Absent at (x ∷ xs)
    → slot_at (facing_older_at (last_or (Some x) xs) value slots) at ≡ slot_at slots at
last_apart slots value at x [] a =
    get_or-set_other slots x at (record (slot_at slots x) { older = value }) unlisted (λ e. eqb-false at x a.0 e)
last_apart slots value at x (y ∷ xs) a = last_apart slots value at y xs a.1

pub older_apart : (slots : List Slot) (value : Option ℕ) (at : ℕ) (xs : List ℕ) → Absent at xs
    → slot_at (facing_older_at (last_or None xs) value slots) at ≡ slot_at slots at
older_apart slots value at [] a = refl
older_apart slots value at (x ∷ xs) a = last_apart slots value at x xs a

-- a slot outside a part, whose first slot gets another newer neighbour
pub newer_apart : (slots : List Slot) (value : Option ℕ) (at : ℕ) (xs : List ℕ) → Absent at xs
    → slot_at (facing_newer_at (first_or xs None) value slots) at ≡ slot_at slots at
newer_apart slots value at [] a = refl
newer_apart slots value at (x ∷ xs) a =
    get_or-set_other slots x at (record (slot_at slots x) { newer = value }) unlisted (λ e. eqb-false at x a.0 e)

older_on : (slots : List Slot) (before : Option ℕ) (x : ℕ) (xs : List ℕ) (behind value : Option ℕ)
    → IsDistinct (λ slot other. nat_eq slot other) (x ∷ xs) → AreLinked slots before (x ∷ xs) behind
    → AreLinked (facing_older_at (last_or (Some x) xs) value slots) before (x ∷ xs) value
unfolding IsDistinct
older_on slots before x [] behind value d l = (
  subst (λ newer. IsLinked (facing_older_at (Some x) value slots) x newer value) (ap (λ (s : Slot). s.newer) l.0.is)
      (link_here slots x (slot_at slots x).newer value l.0.exists),
  tt,
)
older_on slots before x (y ∷ xs) behind value d l = (
  record {
    exists = subst (λ k. x < k) (sym (length-facing_older_at (last_or (Some y) xs) value slots)) l.0.exists;
    is = last_apart slots value x y xs d.0 ∙ l.0.is;
  },
  older_on slots (Some x) y xs behind value d.1 l.1,
)

-- the last slot of the part gets another older neighbour
pub older_set : (slots : List Slot) (xs : List ℕ) (behind value : Option ℕ)
    → IsDistinct (λ slot other. nat_eq slot other) xs → AreLinked slots None xs behind
    → AreLinked (facing_older_at (last_or None xs) value slots) None xs value
older_set slots [] behind value d l = tt
older_set slots (x ∷ xs) behind value d l = older_on slots None x xs behind value d l

older_frame_on : (slots : List Slot) (value before : Option ℕ) (x : ℕ) (xs ys : List ℕ) (behind : Option ℕ)
    → AreApart (x ∷ xs) ys → AreLinked slots before ys behind
    → AreLinked (facing_older_at (last_or (Some x) xs) value slots) before ys behind
older_frame_on slots value before x [] ys behind a l =
    frame slots x (record (slot_at slots x) { older = value }) before ys behind a.0 l
older_frame_on slots value before x (y ∷ xs) ys behind a l = older_frame_on slots value before y xs ys behind a.1 l

-- a slot of another part gets another older neighbour
pub older_frame : (slots : List Slot) (value before : Option ℕ) (xs ys : List ℕ) (behind : Option ℕ) → AreApart xs ys
    → AreLinked slots before ys behind → AreLinked (facing_older_at (last_or None xs) value slots) before ys behind
older_frame slots value before [] ys behind a l = l
older_frame slots value before (x ∷ xs) ys behind a l = older_frame_on slots value before x xs ys behind a l

-- the first slot of the part gets another newer neighbour
pub newer_set : (slots : List Slot) (before value : Option ℕ) (xs : List ℕ) (behind : Option ℕ)
    → IsDistinct (λ slot other. nat_eq slot other) xs → AreLinked slots before xs behind
    → AreLinked (facing_newer_at (first_or xs None) value slots) value xs behind
unfolding IsDistinct
newer_set slots before value [] behind d l = tt
newer_set slots before value (x ∷ xs) behind d l = (
  subst (λ older. IsLinked (facing_newer_at (Some x) value slots) x value older) (ap (λ (s : Slot). s.older) l.0.is)
      (link_here slots x value (slot_at slots x).older l.0.exists),
  frame slots x (record (slot_at slots x) { newer = value }) (Some x) xs behind d.0 l.1,
)

-- a slot of another part gets another newer neighbour
pub newer_frame : (slots : List Slot) (value before : Option ℕ) (xs ys : List ℕ) (behind : Option ℕ) → AreApart xs ys
    → AreLinked slots before xs behind → AreLinked (facing_newer_at (first_or ys None) value slots) before xs behind
newer_frame slots value before xs [] behind a l = l
newer_frame slots value before xs (y ∷ ys) behind a l =
    frame slots y (record (slot_at slots y) { newer = value }) before xs behind (apart_back y ys xs a) l

last_below : (slots : List Slot) (before : Option ℕ) (x : ℕ) (xs : List ℕ) (behind : Option ℕ) (q : ℕ)
    → AreLinked slots before (x ∷ xs) behind → last_or (Some x) xs ≡ Some q → q < length slots
last_below slots before x [] behind q l e = subst (λ k. k < length slots) (same_Some x q e) l.0.exists
last_below slots before x (y ∷ xs) behind q l e = last_below slots (Some x) y xs behind q l.1 e

-- the last slot of a part exists
pub last_exists : (slots : List Slot) (xs : List ℕ) (behind : Option ℕ) → AreLinked slots None xs behind
    → ForSome (last_or None xs) (λ q. q < length slots)
last_exists slots [] behind l q e = absurd (none-some q e)
last_exists slots (x ∷ xs) behind l q e = last_below slots None x xs behind q l e

-- the first slot of a part exists
pub first_exists : (slots : List Slot) (before : Option ℕ) (xs : List ℕ) (behind : Option ℕ)
    → AreLinked slots before xs behind → ForSome (first_or xs None) (λ q. q < length slots)
first_exists slots before [] behind l q e = absurd (none-some q e)
first_exists slots before (x ∷ xs) behind l q e = subst (λ k. k < length slots) (same_Some x q e) l.0.exists

-- each slot of a part exists
pub each_exists : (slots : List Slot) (before : Option ℕ) (xs : List ℕ) (behind : Option ℕ)
    → AreLinked slots before xs behind → (at : ℕ) → list_any (λ other. nat_eq at other) xs ≡ true → at < length slots
each_exists slots before [] behind l at h = absurd (false≢true h)
each_exists slots before (x ∷ xs) behind l at h =
    let c : (nat_eq at x ≡ true) ⊎ (nat_eq at x ≡ false) = cases_Bool (nat_eq at x) in
    elim c [
      | inl e ↦ subst (λ k. k < length slots) (sym (eqb-true at x e)) l.0.exists
      | inr n ↦
          each_exists slots (Some x) xs behind l.1 at
          (ap (λ b. b || list_any (λ other. nat_eq at other) xs) (sym n) ∙ h)
    ]

-- the slots, followed along the older neighbours
pub followed_is : (most : ℕ) (slots : List Slot) (before : Option ℕ) (xs : List ℕ) → AreLinked slots before xs None
    → length xs ≤ most → followed most slots (first_or xs None) ≡ xs
followed_is zero slots before [] l few = refl
followed_is (suc most) slots before [] l few = refl
followed_is zero slots before (x ∷ xs) l few = absurd (omega arith)
followed_is (suc most) slots before (x ∷ xs) l few =
    ap (λ ys. x ∷ ys)
    (ap (λ (slot : Slot). followed most slots slot.older) l.0.is ∙ followed_is most slots (Some x) xs l.1 (omega arith))

-- the links of other slots that are the same one by one
pub linked_same : (slots others : List Slot) → length slots ≤ length others
    → ((q : ℕ) → slot_at others q ≡ slot_at slots q) → (before : Option ℕ) (xs : List ℕ) (behind : Option ℕ)
    → AreLinked slots before xs behind → AreLinked others before xs behind
linked_same slots others more same before [] behind l = tt
linked_same slots others more same before (x ∷ xs) behind l = (
  record { exists = omega (arith, l.0.exists, more); is = same x ∙ l.0.is },
  linked_same slots others more same (Some x) xs behind l.1,
)
