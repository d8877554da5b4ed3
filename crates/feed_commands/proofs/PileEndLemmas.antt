-- `show pile`: how the program ends after a pile.
use Rattle.std.proofs.Common.{◌≡◌, ◌⊎◌, inl, inr, ⊎_elim, ℕ, List, [], ◌++◌, Result, Err, refl, sym, ap, subst, ◌∙◌, append-nil, arith}
use Rattle.atom_values.specs.Counts.{CountsFault, HasRisen}
use Rattle.doc_source.specs.Outside.{SinkState, TakesPrefix}
use Rattle.feed_disk.specs.declared.area.Area.{Area}
use Rattle.feed_recovery.specs.Stored.{OpensTo, Stored}
use Rattle.feed_commands.specs.declared.commands.pile.PrintFault.{PrintFault}
use Rattle.feed_commands.specs.declared.commands.pile.PrintFault.TheVariants.{Other}
use Rattle.command_ends.specs.declared.fault.Fault.{Fault}
use Rattle.command_ends.specs.declared.fault.Fault.TheVariants.{NoMemory, Input, Disk, BadStore, Full, Refused}
use Rattle.command_ends.specs.declared.status.Status.TheVariants as ends
use Rattle.command_ends.specs.Answer.{Prints}
use Rattle.command_ends.specs.Fault.{IsRefusal, fault_answer}
use Rattle.feed_commands.specs.Pile.{EndsCut, MayEndPile, pile_answer, pile_of}
use Rattle.feed_commands.specs.Outside.{Outside}
use Rattle.feed_commands.specs.Run.{EndsWith}
use Rattle.command_ends.specs.Ends.{IsDone, IsStatus}
use Rattle.command_ends.specs.Status.{code_of}
use Rattle.store_commands.specs.Stored.{IsBadStore}
use Rattle.tool_words.specs.declared.command.Command.TheVariants.{Show}
use Rattle.tool_words.specs.declared.command.Show.TheVariants.{Pile}
use Rattle.command_ends.proofs.EndLemmas.{no_done}
use Rattle.feed_commands.proofs.CountLemmas.{disk_end}
use Rattle.store_commands.proofs.CountLemmas.{counts-as}

-- a fault under its own name
pub failed-by : {result : Result (Unit {0}) PrintFault} {fault other : PrintFault} → result ≡ Err fault → fault ≡ other
    → result ≡ Err other
failed-by is same =
    let failed : PrintFault → Result (Unit {0}) PrintFault = λ fault. Err fault in
    is ∙ ap failed same

module _ (outside : Outside) (observable : Type 0) (before after : SinkState) (ended : ℕ) where
  -- the pile was printed
  pub ends-piled : (stored : Stored) → OpensTo outside.content stored → ended ≡ 0
      → (observable → after.taken ≡ before.taken ++ pile_of stored)
      → EndsWith (Show Pile) outside observable before after ended
  ends-piled stored opens done whole = record {
    answer = pile_answer stored;
    is = inl record { stored = stored; opens = opens; is = refl };
    status = inl done;
    prints = λ seen. record {
      prefix = record {
        sent = pile_of stored;
        rest = [];
        whole = sym (append-nil (pile_of stored));
        taken = whole seen;
      };
      whole = λ _. whole seen;
    };
    whole = λ seen _. whole seen;
  }

  -- the output failed
  pub ends-unpiled : (stored : Stored) → OpensTo outside.content stored → ended ≡ 8
      → (observable → TakesPrefix before after (pile_of stored)) → HasRisen before.faults after.faults
      → EndsWith (Show Pile) outside observable before after ended
  ends-unpiled stored opens failed prefix rose = record {
    answer = pile_answer stored;
    is = inl record { stored = stored; opens = opens; is = refl };
    status = inr (failed, inl refl);
    prints = λ seen. record { prefix = prefix seen; whole = λ none. absurd (none rose) };
    whole = λ seen. ⊎_elim (λ done. absurd (omega (arith, failed, done)))
        (λ done. absurd (omega (arith, failed, done)));
  }

  -- the content opens to no store
  pub ends-unopened : (fault : Fault) → IsBadStore outside.content (fault_answer fault)
      → ended ≡ code_of (fault_answer fault).status → (observable → Prints before after (fault_answer fault).printed)
      → EndsWith (Show Pile) outside observable before after ended
  ends-unopened fault bad is prints = record {
    answer = fault_answer fault;
    is = inr bad;
    status = inl is;
    prints = prints;
    whole = λ seen done. absurd (no_done fault (subst IsDone is done));
  }

-- memory ran out before the store was loaded: the line is all that is printed
pub cut-at-once : (content : Area → List ℕ) (observable : Type 0) (before after : SinkState) (fault : Fault) (ended : ℕ)
    → ended ≡ code_of (fault_answer fault).status → Prints before after (fault_answer fault).printed
    → EndsCut content observable before after ended
cut-at-once content observable before after fault ended is prints = record {
  fault = fault;
  status = is;
  front = [];
  is = λ _. inl refl;
  prints =
      let same : before ≡ record before { taken = before.taken ++ [] } =
      ap (λ (taken : List ℕ). record before { taken = taken }) (sym (append-nil before.taken)) in
      subst (λ (sent : SinkState). Prints sent after (fault_answer fault).printed) same prints;
}

-- a fault that is no refusal and not of the disk is that of memory
pub only-memory : (fault : Fault) (ended : ℕ) → MayEndPile fault → (IsRefusal fault → ⊥) → (fault ≡ Disk → ⊥)
    → ended ≡ code_of (fault_answer fault).status → (ended ≡ 0) ⊎ (ended ≡ 5)
only-memory NoMemory ended may refusal disk is = inr is
only-memory Input ended may refusal disk is = absurd may
only-memory Disk ended may refusal disk is = absurd (disk refl)
only-memory (BadStore bad) ended may refusal disk is = absurd (refusal tt)
only-memory (Full area size needed capacity) ended may refusal disk is = absurd may
only-memory (Refused refused) ended may refusal disk is = absurd may

-- the fault of the disk is what ended the pile, if its status is the disk's
pub pile-disk : (before after ended : ℕ) (result : Result (Unit {0}) PrintFault) (fault : Fault)
    → result ≡ Err (Other fault) → ended ≡ code_of (fault_answer fault).status
    → CountsFault before after (result ≡ Err (Other Disk)) → CountsFault before after (ended ≡ 4)
pile-disk before after ended result fault is same = counts-as
    (λ e. let disk : fault ≡ Disk = cc (is, e) in same ∙ ap (λ (f : Fault). code_of (fault_answer f).status) disk)
    (λ e. is ∙ ap (λ (f : Fault). Err (Other f)) (disk_end fault (sym same ∙ e)))

-- the statuses after a pile
abbrev pub IsPileCode : ℕ → Type 0
IsPileCode n = (n ≡ 0) ⊎ (n ≡ 4) ⊎ (n ≡ 5) ⊎ (n ≡ 6) ⊎ (n ≡ 8)

pub pile-is_status : (n : ℕ) → IsPileCode n → IsStatus n
pile-is_status n (inl e) = (ends.Done, e)
pile-is_status n (inr (inl e)) = (ends.DiskFault, e)
pile-is_status n (inr (inr (inl e))) = (ends.NoMemory, e)
pile-is_status n (inr (inr (inr (inl e)))) = (ends.BadStore, e)
pile-is_status n (inr (inr (inr (inr e)))) = (ends.OutputFault, e)

-- the status of a fault that may end a pile
pub pile-status : (fault : Fault) (ended : ℕ) → MayEndPile fault → ended ≡ code_of (fault_answer fault).status
    → IsPileCode ended
pile-status NoMemory ended may is = inr (inr (inl is))
pile-status Input ended may is = absurd may
pile-status Disk ended may is = inr (inl is)
pile-status (BadStore bad) ended may is = inr (inr (inr (inl is)))
pile-status (Full area size needed capacity) ended may is = absurd may
pile-status (Refused refused) ended may is = absurd may
