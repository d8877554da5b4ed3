-- Lists of slots that differ.
use Rattle.std.proofs.Common.{◌≡◌, inl, inr, ◌⊎◌, ℕ, List, [], ◌∷◌, ◌++◌, true, false, ◌||◌, nat_eq, refl, sym, ap, ◌∙◌, arith}
use Rattle.std.specs.Prelude.{Contains, IfSome}
use Rattle.std.specs.List.{IsDistinct, AllByRecursion, list_any}
use Rattle.std.proofs.lemmas.Bool.{cases_Bool, or_parts, eq-eqb, eqb-true, ne_eqb, false≢true}
use Rattle.std.proofs.lemmas.List.Elements.{Contains-append_right}
use Rattle.std.proofs.lemmas.Option.{IfSome_then}
use Rattle.recency_list.specs.Recency.{first_of, older_than, without}

-- the slot isn't in the list
abbrev pub Absent : ℕ → List ℕ → Type 0
Absent at list = AllByRecursion (λ other. nat_eq at other ≡ false) list

pub flip : (x y : ℕ) → nat_eq x y ≡ false → nat_eq y x ≡ false
flip x y h = ne_eqb y x (λ e. false≢true (sym h ∙ eq-eqb x y (sym e)))

pub absent_any : (at : ℕ) (xs : List ℕ) → Absent at xs → list_any (λ other. nat_eq at other) xs ≡ false
absent_any at [] h = refl
absent_any at (x ∷ xs) h = rw h.0 (absent_any at xs h.1)

pub any_absent : (at : ℕ) (xs : List ℕ) → list_any (λ other. nat_eq at other) xs ≡ false → Absent at xs
any_absent at [] h = tt
any_absent at (x ∷ xs) h =
    let parts = or_parts (nat_eq at x) (list_any (λ other. nat_eq at other) xs) h in
    (parts.0, any_absent at xs parts.1)

pub absent_split : (at : ℕ) (xs ys : List ℕ) → Absent at (xs ++ ys) → Absent at xs × Absent at ys
absent_split at [] ys h = (tt, h)
absent_split at (x ∷ xs) ys h = let rest = absent_split at xs ys h.1 in ((h.0, rest.0), rest.1)

pub absent_join : (at : ℕ) (xs ys : List ℕ) → Absent at xs → Absent at ys → Absent at (xs ++ ys)
absent_join at [] ys h k = k
absent_join at (x ∷ xs) ys h k = (h.0, absent_join at xs ys h.1 k)

-- no slot of the first list is in the second
abbrev pub AreApart : List ℕ → List ℕ → Type 0
AreApart xs ys = AllByRecursion (λ at. Absent at ys) xs

pub apart_back : (y : ℕ) (ys xs : List ℕ) → AreApart xs (y ∷ ys) → Absent y xs
apart_back y ys [] h = tt
apart_back y ys (x ∷ xs) h = (flip x y h.0.0, apart_back y ys xs h.1)

-- the parts of a list without doubles before and behind a slot
pub record IsSplit (before : List ℕ) (at : ℕ) (behind : List ℕ) : Type 0 where
  pub front : IsDistinct (λ slot other. nat_eq slot other) before
  pub back : IsDistinct (λ slot other. nat_eq slot other) behind
  pub not_before : Absent at before
  pub not_behind : Absent at behind
  pub apart : AreApart before behind
  pub whole : IsDistinct (λ slot other. nat_eq slot other) (before ++ behind)

pub split_distinct : (before : List ℕ) (at : ℕ) (behind : List ℕ)
    → IsDistinct (λ slot other. nat_eq slot other) (before ++ at ∷ behind) → IsSplit before at behind
unfolding IsDistinct
split_distinct [] at behind h = record {
  front = tt;
  back = h.1;
  not_before = tt;
  not_behind = h.0;
  apart = tt;
  whole = h.1;
}
split_distinct (x ∷ before) at behind h =
    let rest = split_distinct before at behind h.1 in
    let parts = absent_split x before (at ∷ behind) h.0 in
    record {
      front = (parts.0, rest.front);
      back = rest.back;
      not_before = (flip x at parts.1.0, rest.not_before);
      not_behind = rest.not_behind;
      apart = (parts.1.1, rest.apart);
      whole = (absent_join x before behind parts.0 parts.1.1, rest.whole);
    }

-- a list with a slot is its part before the slot, the slot and its part behind it
pub split_at : (at : ℕ) (xs : List ℕ) → list_any (λ other. nat_eq at other) xs ≡ true
    → (before : List ℕ) × (behind : List ℕ) × (xs ≡ before ++ at ∷ behind)
split_at at [] h = absurd (false≢true h)
split_at at (x ∷ xs) h =
    let c : (nat_eq at x ≡ true) ⊎ (nat_eq at x ≡ false) = cases_Bool (nat_eq at x) in
    elim c [
      | inl e ↦ ([], xs, ap (λ y. y ∷ xs) (sym (eqb-true at x e)))
      | inr n ↦
          let there : list_any (λ other. nat_eq at other) xs ≡ true =
          ap (λ b. b || list_any (λ other. nat_eq at other) xs) (sym n) ∙ h in
          let rest = split_at at xs there in
          (x ∷ rest.0, rest.1, ap (λ ys. x ∷ ys) rest.2)
    ]

pub without-absent : (at : ℕ) (xs : List ℕ) → Absent at xs → without at xs ≡ xs
without-absent at [] h = refl
without-absent at (x ∷ xs) h = rw h.0 (ap (λ ys. x ∷ ys) (without-absent at xs h.1))

pub any_without : (at : ℕ) (xs : List ℕ) → list_any (λ other. nat_eq at other) (without at xs) ≡ false
any_without at [] = refl
any_without at (x ∷ xs) =
    let c : (nat_eq at x ≡ true) ⊎ (nat_eq at x ≡ false) = cases_Bool (nat_eq at x) in
    elim c [
      | inl e ↦ rw e (any_without at xs)
      | inr n ↦ rw n (ap (λ b. b || list_any (λ other. nat_eq at other) (without at xs)) n ∙ any_without at xs)
    ]

-- the slot that a list shows is in it
pub first_contained : (list : List ℕ) → IfSome (first_of list) (Contains list)
first_contained [] = tt
first_contained (x ∷ list) = (0, omega arith, refl)

pub older_contained : (at : ℕ) (list : List ℕ) → IfSome (older_than at list) (Contains list)
older_contained at [] = tt
older_contained at (x ∷ list) =
    let c : (nat_eq at x ≡ true) ⊎ (nat_eq at x ≡ false) = cases_Bool (nat_eq at x) in
    elim c [
      | inl e ↦
          rw e
          (IfSome_then (first_of list) (first_contained list) (λ y h. Contains-append_right (x ∷ []) list y h))
      | inr n ↦
          rw n
          (IfSome_then (older_than at list) (older_contained at list)
          (λ y h. Contains-append_right (x ∷ []) list y h))
    ]

pub without-split : (before : List ℕ) (at : ℕ) (behind : List ℕ) → Absent at before → Absent at behind
    → without at (before ++ at ∷ behind) ≡ before ++ behind
without-split [] at behind h k = rw (eq-eqb at at refl) (without-absent at behind k)
without-split (x ∷ before) at behind h k =
    rw h.0 (ap (λ ys. x ∷ ys) (without-split before at behind h.1 k))

pub older_than-split : (before : List ℕ) (at : ℕ) (behind : List ℕ) → Absent at before
    → older_than at (before ++ at ∷ behind) ≡ first_of behind
older_than-split [] at behind h = rw (eq-eqb at at refl) refl
older_than-split (x ∷ before) at behind h = rw h.0 (older_than-split before at behind h.1)

pub any_skip : (q at : ℕ) (before behind : List ℕ) → nat_eq q at ≡ false
    → list_any (λ other. nat_eq q other) (before ++ at ∷ behind)
    ≡ list_any (λ other. nat_eq q other) (before ++ behind)
any_skip q at [] behind n = rw n refl
any_skip q at (x ∷ before) behind n = ap (λ b. nat_eq q x || b) (any_skip q at before behind n)
