-- The part of a text that an output took.
use Rattle.std.proofs.Common.{◌≡◌, ◌⊎◌, inl, inr, ⊎_elim, arith, ℕ, ◌≤◌, List, ◌++◌, Result, Ok, Err, refl, OnOk}
use Rattle.atom_values.specs.Counts.{HasCause}
use Rattle.command_ends.specs.declared.fault.Fault.{Fault}
use Rattle.command_ends.specs.declared.fault.Fault.TheVariants.{NoMemory, Input, Disk, BadStore, Full, Refused}
use Rattle.command_ends.specs.declared.fault.Refusal.{Refusal}
use Rattle.doc_source.specs.Outside.{SinkState, TakesPrefix}
use Rattle.command_ends.specs.Answer.{Prints}
use Rattle.command_ends.specs.Fault.{fault_answer, refusal_answer}
use Rattle.command_ends.specs.Ends.{IsAlone, alone_line}
use Rattle.command_ends.specs.Status.{code_of}
use Rattle.command_ends.proofs.EndLemmas.{refusal_code}

-- a text that was sent, or a prefix of it where a call failed
pub prints-from : {T E : Type 0} (r : Result T E) (before after : SinkState) (text : List ℕ)
    → TakesPrefix before after text → OnOk r (after.taken ≡ before.taken ++ text)
    → HasCause before.faults after.faults r → Prints before after text
prints-from (Ok x) before after text prefix whole cause = record { prefix = prefix; whole = λ _. whole }
prints-from (Err e) before after text prefix whole cause =
    record { prefix = prefix; whole = λ none. absurd (none cause.failed) }

-- only five statuses have a line of their own
alone_at : (P : ℕ → Type 0) → P 2 → P 4 → P 5 → P 7 → P 9 → (n : ℕ) → IsAlone n → P n
alone_at P p2 p4 p5 p7 p9 n (inl e) = rw e p2
alone_at P p2 p4 p5 p7 p9 n (inr (inl e)) = rw e p4
alone_at P p2 p4 p5 p7 p9 n (inr (inr (inl e))) = rw e p5
alone_at P p2 p4 p5 p7 p9 n (inr (inr (inr (inl e)))) = rw e p7
alone_at P p2 p4 p5 p7 p9 n (inr (inr (inr (inr e)))) = rw e p9

pub no_alone : (n : ℕ) → (n ≡ 6) ⊎ (10 ≤ n) → IsAlone n → ⊥
no_alone n far alone = alone_at (λ k. (k ≡ 6) ⊎ (10 ≤ k) → ⊥)
    (⊎_elim (λ e. omega (arith, e)) (λ e. omega (arith, e))) (⊎_elim (λ e. omega (arith, e)) (λ e. omega (arith, e)))
    (⊎_elim (λ e. omega (arith, e)) (λ e. omega (arith, e))) (⊎_elim (λ e. omega (arith, e)) (λ e. omega (arith, e)))
    (⊎_elim (λ e. omega (arith, e)) (λ e. omega (arith, e))) n alone far

-- no refusal's line is alone
alone-refusal : {A : Type 0} (refusal : Refusal) → IsAlone (code_of (refusal_answer refusal).status) → A
alone-refusal refusal h = absurd (no_alone _ (refusal_code (λ n. (n ≡ 6) ⊎ (10 ≤ n)) (inr (omega arith))
    (inr (omega arith)) refusal) h)

-- the line of a fault whose status is alone is that status's line
pub alone-fault : (fault : Fault) → IsAlone (code_of (fault_answer fault).status)
    → alone_line (code_of (fault_answer fault).status) ≡ (fault_answer fault).printed
alone-fault NoMemory h = refl
alone-fault Input h = refl
alone-fault Disk h = refl
alone-fault (BadStore bad) h = absurd (no_alone 6 (inl refl) h)
alone-fault (Full area size needed capacity) h = absurd (no_alone 11 (inr (omega arith)) h)
alone-fault (Refused refusal) h = alone-refusal refusal h
