-- Counts of faults, by how a function ended.
use Rattle.std.proofs.Common.{◌≡◌, ◌≤◌, ℕ, Result, Ok, Err, refl, sym, ◌∙◌, ap, subst, arith}
use Rattle.atom_values.specs.Counts.{CountsFault}
use Rattle.command_ends.specs.Ends.{CountsOutput, IsDone}
use Rattle.command_ends.specs.Fault.{fault_answer}
use Rattle.command_ends.specs.Status.{code_of}
use Rattle.command_ends.specs.declared.fault.Fault.{Fault}
use Rattle.command_ends.specs.declared.fault.Fault.TheVariants.{BadStore, Disk, Full, Input, NoMemory, Refused}
use Rattle.command_ends.proofs.AnsweredLemmas.{done-sent}
use Rattle.command_ends.proofs.EndLemmas.{input_end, no_done, no_output, refusal_code}
use Rattle.feed_commands.specs.Run.{CountsShared}
use Rattle.store_commands.proofs.CountLemmas.{counts-as}

-- no call was made, and the fault wasn't returned
pub counts-none : {count : ℕ} {Returned : Type 0} → (Returned → ⊥) → CountsFault count count Returned
counts-none none = record {
  later = omega arith;
  failed = λ is. absurd (none is);
  unfailed = λ _. refl;
}

-- the fault of the disk alone has its status
pub disk_end : (fault : Fault) → code_of (fault_answer fault).status ≡ 4 → fault ≡ Disk
disk_end NoMemory e = absurd (omega (arith, e))
disk_end Input e = absurd (omega (arith, e))
disk_end Disk e = refl
disk_end (BadStore bad) e = absurd (omega (arith, e))
disk_end (Full area size needed capacity) e = absurd (omega (arith, e))
disk_end (Refused refusal) e =
    absurd (refusal_code (λ n. n ≡ 4 → ⊥) (λ e. omega (arith, e)) (λ e. omega (arith, e)) refusal e)

-- no fault has the status of words that name no command
pub no_usage : (fault : Fault) → code_of (fault_answer fault).status ≡ 2 → ⊥
no_usage NoMemory e = omega (arith, e)
no_usage Input e = omega (arith, e)
no_usage Disk e = omega (arith, e)
no_usage (BadStore bad) e = omega (arith, e)
no_usage (Full area size needed capacity) e = omega (arith, e)
no_usage (Refused refusal) e = refusal_code (λ n. n ≡ 2 → ⊥) (λ e. omega (arith, e)) (λ e. omega (arith, e)) refusal e

-- the call returned no fault, and the end is none
pub counts-of_ok : {T : Type 0} {before after ended code : ℕ} {made : T} {fault : Fault} → (ended ≡ code → ⊥)
    → CountsFault before after (◌≡◌ {A = Result T Fault} (Ok made) (Err fault)) → CountsFault before after (ended ≡ code)
counts-of_ok other =
    counts-as (λ e. cc) (λ e. absurd (other e))

module _ {T : Type 0} {before after ended : ℕ} (fault : Fault) (is : ended ≡ code_of (fault_answer fault).status) where
  -- the end is that of the fault which the call returned
  pub disk-of_fault : CountsFault before after (◌≡◌ {A = Result T Fault} (Err fault) (Err Disk))
      → CountsFault before after (ended ≡ 4)
  disk-of_fault = counts-as
      (λ e. let same : fault ≡ Disk = cc in is ∙ ap (λ (f : Fault). code_of (fault_answer f).status) same)
      (λ e. ap (λ (f : Fault). Err f) (disk_end fault (sym is ∙ e)))

  pub input-of_fault : CountsFault before after (◌≡◌ {A = Result T Fault} (Err fault) (Err Input))
      → CountsFault before after (ended ≡ 9)
  input-of_fault = counts-as
      (λ e. let same : fault ≡ Input = cc in is ∙ ap (λ (f : Fault). code_of (fault_answer f).status) same)
      (λ e. ap (λ (f : Fault). Err f) (input_end fault (sym is ∙ e)))

-- the only object at its status
pub shared-counts : {before after : ℕ} {Returned Alone : Type 0} → CountsFault before after Returned
    → CountsShared before after Returned Alone
shared-counts counts = record {
  later = counts.later;
  failed = λ _. counts.failed;
  unfailed = counts.unfailed;
}

-- the other object of a shared status, on which no call was made
pub shared-other : {count : ℕ} {Returned Alone : Type 0} → (Alone → ⊥) → CountsShared count count Returned Alone
shared-other other = record {
  later = omega arith;
  failed = λ alone. absurd (other alone);
  unfailed = λ _. refl;
}

-- The count of the output

-- by that of a failed output
pub output-counts : {before after ended : ℕ} → CountsFault before after (ended ≡ 8) → CountsOutput before after ended
output-counts {ended = ended} counts = record {
  later = counts.later;
  failed = counts.failed;
  whole = λ done. counts.unfailed (done-sent ended done);
}

-- after the line of a fault, or of words that name no command
pub output-later : {before after ended : ℕ} → (ended ≡ 8 → ⊥) → (IsDone ended → ⊥) → before ≤ after
    → CountsOutput before after ended
output-later sent undone later = record {
  later = later;
  failed = λ is. absurd (sent is);
  whole = λ done. absurd (undone done);
}

pub output-of_fault : {before after ended : ℕ} (fault : Fault) → ended ≡ code_of (fault_answer fault).status
    → before ≤ after → CountsOutput before after ended
output-of_fault fault is = output-later
    (λ e. no_output fault (sym is ∙ e)) (λ done. no_done fault (subst IsDone is done))
