-- How many members are live, after one more operation.
use Rattle.std.proofs.Common.{◌≡◌, ◌≢◌, inl, inr, ℕ, zero, suc, ◌+◌, ◌<◌, ◌≤◌, Bool, true, false, if◌then◌else◌, Option}
use Rattle.std.proofs.Common.{None, add-one, refl, sym, ap, ◌∙◌, arith}
use Rattle.std.specs.Prelude.{is_some}
use Rattle.std.proofs.lemmas.Bool.{cases_eq}
use Rattle.atom_values.specs.Entry.{EntryValue}
use Rattle.member_rules.specs.Fold.{count_up_to}

count-step : (a b : Bool) (m n : ℕ) → a ≡ b → m ≡ n → (if a then m + 1 else m) ≡ (if b then n + 1 else n)
count-step a b m n e same = λ i. if e i then same i + 1 else same i

pub count-same : (before after : ℕ → Option EntryValue) (n : ℕ)
    → ((k : ℕ) → 1 ≤ k → k ≤ n → is_some (before k) ≡ is_some (after k)) → count_up_to before n ≡ count_up_to after n
count-same before after zero same = refl
count-same before after (suc n) same =
    count-step (is_some (before (suc n))) (is_some (after (suc n))) (count_up_to before n) (count_up_to after n)
    (same (suc n) (omega arith) (omega arith)) (count-same before after n (λ k low high. same k low (omega arith)))

-- one more member, who is live
pub count-more : (before after : ℕ → Option EntryValue) (n : ℕ)
    → ((k : ℕ) → k ≢ n + 1 → is_some (before k) ≡ is_some (after k)) → is_some (after (n + 1)) ≡ true
    → count_up_to after (n + 1) ≡ count_up_to before n + 1
count-more before after n same live =
    ap (count_up_to after) (add-one n)
    ∙ ap (λ b. if b then count_up_to after n + 1 else count_up_to after n)
    (ap (λ (k : ℕ). is_some (after k)) (sym (add-one n)) ∙ live)
    ∙ ap (λ m. m + 1) (sym (count-same before after n (λ k low high. same k (omega arith))))

-- one of the members is no longer live
pub count-less : (before after : ℕ → Option EntryValue) (n number : ℕ) → 1 ≤ number → number ≤ n
    → is_some (before number) ≡ true → is_some (after number) ≡ false
    → ((k : ℕ) → k ≢ number → is_some (before k) ≡ is_some (after k)) → count_up_to before n ≡ count_up_to after n + 1
count-less before after zero number low high was is same = absurd (omega arith)
count-less before after (suc n) number low high was is same = elim (cases_eq number (suc n)) [
  | inl here ↦
      ap (λ b. if b then count_up_to before n + 1 else count_up_to before n)
      (ap (λ (k : ℕ). is_some (before k)) (sym here) ∙ was)
      ∙ ap (λ m. m + 1) (count-same before after n (λ k from to. same k (omega arith)))
      ∙ ap (λ b. (if b then count_up_to after n + 1 else count_up_to after n) + 1)
      (sym is ∙ ap (λ (k : ℕ). is_some (after k)) here)
  | inr elsewhere ↦
      both (is_some (before (suc n))) (is_some (after (suc n))) (count_up_to before n) (count_up_to after n)
      (same (suc n) (omega arith))
      (count-less before after n number low (omega arith) was is same)
]
  where
    both : (a b : Bool) (m k : ℕ) → a ≡ b → m ≡ k + 1 → (if a then m + 1 else m) ≡ (if b then k + 1 else k) + 1
    both a b m k e less = rw (e, less) (split b)
      where
        split : (b : Bool) → (if b then k + 1 + 1 else k + 1) ≡ (if b then k + 1 else k) + 1
        split true = refl
        split false = refl

-- no member is live past this number
pub count-past : (live : ℕ → Option EntryValue) (n more : ℕ) → ((k : ℕ) → n < k → live k ≡ None)
    → count_up_to live (n + more) ≡ count_up_to live n
count-past live n zero none = let same : n + 0 ≡ n = omega arith in ap (count_up_to live) same
count-past live n (suc more) none =
    let next : n + suc more ≡ suc (n + more) = omega arith in
    ap (count_up_to live) next
    ∙ ap (λ (o : Option EntryValue). if is_some o then count_up_to live (n + more) + 1 else count_up_to live
    (n + more)) (none (suc (n + more)) (omega arith))
    ∙ count-past live n more none
