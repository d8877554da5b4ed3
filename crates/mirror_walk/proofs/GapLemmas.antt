-- The greatest number of an archive that isn't held.
use Rattle.std.proofs.Common.{◌≡◌, ◌≢◌, ◌⊎◌, inl, inr, ℕ, zero, suc, ◌-◌, ◌<◌, ◌≤◌, Bool, true, false, cond}
use Rattle.std.proofs.Common.{List, [], ◌∷◌, ◌++◌, Option, Some, None, refl, sym, ap, subst, ◌∙◌, arith}
use Rattle.std.specs.Prelude.{IsSome, is_none, unwrap_or}
use Rattle.std.proofs.lemmas.Bool.{cases_lt, cases_eq}
use Rattle.mirror_walk.specs.Holding.{KeptValue, archive_at, gap_from, is_archive}
use Rattle.mirror_walk.proofs.PushLemmas.{archive_at-push-other, archive_at-push-own}

-- from the next number down: that number, if its archive isn't held, and else as from the one before
gap_from-next : (kept : List KeptValue) (number : ℕ)
    → gap_from kept (suc number)
    ≡ cond (is_none (archive_at kept (suc number))) (Some (suc number)) (gap_from kept number)
unfolding gap_from
gap_from-next kept number = refl

gap_from-zero : (kept : List KeptValue) → gap_from kept zero ≡ None
unfolding gap_from
gap_from-zero kept = refl

pub gap-here : (kept : List KeptValue) (number : ℕ) → 1 ≤ number → archive_at kept number ≡ None
    → gap_from kept number ≡ Some number
gap-here kept zero one free = absurd (omega arith)
gap-here kept (suc n) one free =
    gap_from-next kept n ∙ ap (λ (o : Option KeptValue). cond (is_none o) (Some (suc n)) (gap_from kept n))
    free

none-some : {T : Type 0} (o : Option T) → IsSome o → is_none o ≡ false
none-some None some = absurd (cc)
none-some (Some x) some = refl

gap-over : (kept : List KeptValue) (n : ℕ) → IsSome (archive_at kept (suc n))
    → gap_from kept (suc n) ≡ gap_from kept n
gap-over kept n some =
    gap_from-next kept n
    ∙ ap (λ (b : Bool). cond b (Some (suc n)) (gap_from kept n)) (none-some (archive_at kept (suc n)) some)

-- the archives between two numbers are held
pub gap-passes : (kept : List KeptValue) (low high : ℕ) → low ≤ high
    → ((n : ℕ) → low < n → n ≤ high → IsSome (archive_at kept n)) → gap_from kept high ≡ gap_from kept low
gap-passes kept low zero below held =
    let none : zero ≡ low = omega arith in ap (gap_from kept) none
gap-passes kept low (suc high) below held = elim (cases_lt low (suc high)) [
  | inl less ↦
      gap-over kept high (held (suc high) less (omega arith))
      ∙ gap-passes kept low high (omega arith) (λ n more within. held n more (omega arith))
  | inr past ↦ let same : suc high ≡ low = omega arith in ap (gap_from kept) same
]

-- the number is that of an archive that isn't held, and all from there up to `high` are held
pub record IsGap (kept : List KeptValue) (high number : ℕ) : Type 0 where
  pub one : 1 ≤ number
  pub within : number ≤ high
  pub free : archive_at kept number ≡ None
  pub held : (n : ℕ) → number < n → n ≤ high → IsSome (archive_at kept n)

cases_held : (kept : List KeptValue) (number : ℕ)
    → (archive_at kept number ≡ None) ⊎ IsSome (archive_at kept number)
cases_held kept number = of_option (archive_at kept number)
  where
    of_option : (o : Option KeptValue) → (o ≡ None) ⊎ IsSome o
    of_option None = inl refl
    of_option (Some k) = inr refl

pub gap-found : (kept : List KeptValue) (high number : ℕ) → gap_from kept high ≡ Some number
    → IsGap kept high number
gap-found kept zero number found =
    absurd (let clash : None ≡ Some number = sym (gap_from-zero kept) ∙ found in cc)
gap-found kept (suc high) number found = elim (cases_held kept (suc high)) [
  | inl free ↦
      let same : Some (suc high) ≡ Some number = sym (gap-here kept (suc high) (omega arith) free) ∙ found in
      let here : number ≡ suc high = cc in
      record {
        one = omega arith;
        within = omega arith;
        free = ap (archive_at kept) here ∙ free;
        held = λ n more within. absurd (omega arith);
      }
  | inr some ↦
      let gap = gap-found kept high number (sym (gap-over kept high some) ∙ found) in
      record {
        one = gap.one;
        within = omega (arith, gap.within);
        free = gap.free;
        held = λ n more within. elim (cases_lt high n) [
          | inl last ↦
              let here : suc high ≡ n = omega arith in subst (λ (m : ℕ). IsSome (archive_at kept m)) here some
          | inr below ↦ gap.held n more below
        ];
      }
]

pub gap-none : (kept : List KeptValue) (high : ℕ) → gap_from kept high ≡ None → (n : ℕ) → 1 ≤ n → n ≤ high
    → IsSome (archive_at kept n)
gap-none kept zero none n one within = absurd (omega arith)
gap-none kept (suc high) none n one within = elim (cases_held kept (suc high)) [
  | inl free ↦
      let clash : None ≡ Some (suc high) = sym none ∙ gap-here kept (suc high) (omega arith) free in
      absurd (cc)
  | inr some ↦ elim (cases_lt high n) [
    | inl last ↦
        let here : suc high ≡ n = omega arith in subst (λ (m : ℕ). IsSome (archive_at kept m)) here some
    | inr below ↦ gap-none kept high (sym (gap-over kept high some) ∙ none) n one below
  ]
]

-- the archives above the first missing one are held
pub gap-above : (kept : List KeptValue) (high : ℕ) (gap : Option ℕ) → gap_from kept high ≡ gap → (n : ℕ)
    → unwrap_or gap 0 < n → n ≤ high → IsSome (archive_at kept n)
gap-above kept high None is n more within = gap-none kept high is n (omega arith) within
gap-above kept high (Some number) is n more within = (gap-found kept high number is).held n more within

-- 0 means that no archive is missing
pub gap-zero : (kept : List KeptValue) (high : ℕ) (gap : Option ℕ) → gap_from kept high ≡ gap
    → unwrap_or gap 0 ≡ 0
    → gap ≡ None
gap-zero kept high None is none = refl
gap-zero kept high (Some number) is none = absurd (omega (arith, (gap-found kept high number is).one))

-- the archives above `low` and up to `high` are held
pub record IsPassed (kept : List KeptValue) (low high : ℕ) : Type 0 where
  pub below : low ≤ high
  pub held : (n : ℕ) → low < n → n ≤ high → IsSome (archive_at kept n)

-- the first missing archive from `high` down is `low`, or all are held and `low` is 0
pub gap-ends : (kept : List KeptValue) (low high : ℕ) → IsPassed kept low high
    → (low ≡ 0) ⊎ (archive_at kept low ≡ None)
    → low ≡ unwrap_or (gap_from kept high) 0
gap-ends kept low high passed ends =
    sym (ap (λ (o : Option ℕ). unwrap_or o 0) (gap-passes kept low high passed.below passed.held) ∙ first low
    ends)
  where
    first : (at : ℕ) → (at ≡ 0) ⊎ (archive_at kept at ≡ None) → unwrap_or (gap_from kept at) 0 ≡ at
    first zero ends = ap (λ (o : Option ℕ). unwrap_or o 0) (gap_from-zero kept)
    first (suc n) (inl none) = absurd (omega arith)
    first (suc n) (inr free) = ap (λ (o : Option ℕ). unwrap_or o 0) (gap-here kept (suc n) (omega arith) free)

-- a new document that is no archive leaves the gaps
pub gap-stays : (kept : List KeptValue) (given : KeptValue)
    → ((n : ℕ) → is_archive n given.document.kind ≡ false)
    → (high : ℕ) → gap_from (kept ++ given ∷ []) high ≡ gap_from kept high
gap-stays kept given other zero = gap_from-zero (kept ++ given ∷ []) ∙ sym (gap_from-zero kept)
gap-stays kept given other (suc high) =
    gap_from-next (kept ++ given ∷ []) high
    ∙ ap (λ (o : Option KeptValue). cond (is_none o) (Some (suc high)) (gap_from (kept ++ given ∷ []) high))
    (archive_at-push-other kept given (suc high) (other (suc high)))
    ∙ ap (λ (o : Option ℕ). cond (is_none (archive_at kept (suc high))) (Some (suc high)) o)
    (gap-stays kept given other high)
    ∙ sym (gap_from-next kept high)

-- A new archive fills the gap of its number, and leaves the others.
module _ (kept : List KeptValue) (given : KeptValue) (number : ℕ) (new : archive_at kept number ≡ None)
    (own : is_archive number given.document.kind ≡ true)
    (other : (n : ℕ) → n ≢ number → is_archive n given.document.kind ≡ false) where
  held-after : (n : ℕ) → IsSome (archive_at kept n) → IsSome (archive_at (kept ++ given ∷ []) n)
  held-after n some = elim (cases_eq n number) [
    | inl same ↦
        subst (λ (o : Option KeptValue). IsSome o)
        (sym (ap (archive_at (kept ++ given ∷ [])) same ∙ archive_at-push-own kept given number new own)) refl
    | inr apart ↦
        subst (λ (o : Option KeptValue). IsSome o) (sym (archive_at-push-other kept given n (other n apart)))
        some
  ]

  pub gap-unfilled : (high : ℕ) → gap_from kept high ≢ Some number
      → gap_from (kept ++ given ∷ []) high ≡ gap_from kept high
  gap-unfilled zero not = gap_from-zero (kept ++ given ∷ []) ∙ sym (gap_from-zero kept)
  gap-unfilled (suc high) not = elim (cases_held kept (suc high)) [
    | inl free ↦
        let gap = gap-here kept (suc high) (omega arith) free in
        let apart : suc high ≢ number = λ same. not (gap ∙ ap (λ (n : ℕ). Some n) same) in
        gap-here (kept ++ given ∷ []) (suc high) (omega arith)
        (archive_at-push-other kept given (suc high) (other (suc high) apart) ∙ free) ∙ sym gap
    | inr some ↦
        gap-over (kept ++ given ∷ []) high (held-after (suc high) some)
        ∙ gap-unfilled high (λ found. not (gap-over kept high some ∙ found)) ∙ sym (gap-over kept high some)
  ]

  pub gap-filled : (high : ℕ) → gap_from kept high ≡ Some number
      → gap_from (kept ++ given ∷ []) high ≡ gap_from kept (number - 1)
  gap-filled zero found = absurd (let clash : None ≡ Some number = sym (gap_from-zero kept) ∙ found in cc)
  gap-filled (suc high) found = elim (cases_held kept (suc high)) [
    | inl free ↦
        let same : Some (suc high) ≡ Some number = sym (gap-here kept (suc high) (omega arith) free)
        ∙ found in
        let here : suc high ≡ number = cc in
        let below : high ≡ number - 1 = omega arith in
        let taken : IsSome (archive_at (kept ++ given ∷ []) (suc high)) =
        subst (λ (o : Option KeptValue). IsSome o)
        (sym (ap (archive_at (kept ++ given ∷ [])) here ∙ archive_at-push-own kept given number new own)) refl
        in
        gap-over (kept ++ given ∷ []) high taken
        ∙ gap-unfilled high (λ clash. absurd (omega (arith, (gap-found kept high number clash).within)))
        ∙ ap (gap_from kept) below
    | inr some ↦
        gap-over (kept ++ given ∷ []) high (held-after (suc high) some)
        ∙ gap-filled high (sym (gap-over kept high some) ∙ found)
  ]
