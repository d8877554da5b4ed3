-- How a command ends after its answer.
use Rattle.std.proofs.Common.{◌≡◌, ◌≢◌, ◌⊎◌, inl, inr, ⊎_elim, ℕ, ◌++◌, ◌≤◌, sym, subst, ◌∙◌, arith}
use Rattle.atom_values.specs.Counts.{CountsFault}
use Rattle.doc_source.specs.Outside.{SinkState}
use Rattle.command_ends.specs.declared.fault.Fault.{Fault}
use Rattle.command_ends.specs.declared.status.Status.TheVariants as ends
use Rattle.command_ends.specs.Answer.{Answer, Prints}
use Rattle.command_ends.specs.Ends.{CountsOutput, EndsAs, IsDone}
use Rattle.command_ends.specs.Fault.{fault_answer}
use Rattle.command_ends.specs.Status.{code_of}
use Rattle.command_ends.proofs.EndLemmas.{no_done, no_output}

-- a defined end isn't a failure of the output
pub done-sent : (ended : ℕ) → IsDone ended → ended ≡ 8 → ⊥
done-sent ended (inl e) f = omega (arith, e, f)
done-sent ended (inr e) f = omega (arith, e, f)

-- the output's count after a text was printed
pub printed-counts : (before after ended : ℕ) → CountsFault before after (ended ≡ code_of ends.OutputFault)
    → CountsOutput before after ended
printed-counts before after ended faults = record {
  later = faults.later;
  failed = faults.failed;
  whole = λ done. faults.unfailed (done-sent ended done);
}

-- after a fault only the line's output can have failed
pub fault-counts : (fault : Fault) (ended before after : ℕ) → ended ≡ code_of (fault_answer fault).status
    → before ≤ after → CountsOutput before after ended
fault-counts fault ended before after is later = record {
  later = later;
  failed = λ e. absurd (no_output fault (sym is ∙ e));
  whole = λ done. absurd (no_done fault (subst IsDone is done));
}

module _ (IsAnswer : Answer → Type 0) (observable : Type 0) (before after : SinkState) where
  -- the answer of a defined end was printed, or a prefix of it
  pub ends-printed : (answer : Answer) (ended : ℕ) → IsAnswer answer → IsDone (code_of answer.status)
      → (ended ≡ code_of answer.status) ⊎ (ended ≡ code_of ends.OutputFault)
      → (observable → Prints before after answer.printed)
      → (ended ≢ code_of ends.OutputFault → observable → after.taken ≡ before.taken ++ answer.printed)
      → EndsAs IsAnswer observable before after ended
  ends-printed answer ended is done status prints whole = record {
    answer = answer;
    is = is;
    status = ⊎_elim (λ e. inl e) (λ e. inr (e, done)) status;
    prints = prints;
    whole = λ seen d. whole (done-sent ended d) seen;
  }

  -- the line of a refusal was printed
  pub ends-refused : (answer : Answer) (ended : ℕ) → IsAnswer answer → ended ≡ code_of answer.status
      → (IsDone (code_of answer.status) → ⊥) → (observable → Prints before after answer.printed)
      → EndsAs IsAnswer observable before after ended
  ends-refused answer ended is same undone prints = record {
    answer = answer;
    is = is;
    status = inl same;
    prints = prints;
    whole = λ seen done. absurd (undone (subst IsDone same done));
  }
