-- The lines of a session that the output took, and how the program ends after the session.
use Rattle.std.proofs.Common.{◌≡◌, ℕ, suc, ◌<◌, List, [], ◌++◌, length, take, drop, get_or, flat_map, ap, sym, ◌∙◌}
use Rattle.std.proofs.Common.{append_assoc, append-nil, subst, ◌≤◌, ◌⊎◌, inl, inr, ⊎_elim, refl, OnOk, Result, Ok, Err, arith}
use Rattle.std.specs.Prelude.{Option}
use Rattle.std.proofs.Math.Seq.{drop-cons}
use Rattle.std.proofs.lemmas.Grind.{flat_map-append}
use Rattle.std.proofs.lemmas.List.{take-append-drop, take_all}
use Rattle.atom_values.specs.Counts.{CountsFault, HasCause, HasRisen}
use Rattle.atom_values.specs.declared.memory.Failed.{Failed}
use Rattle.doc_source.proofs.WriteLemmas.{takes_more}
use Rattle.document_server.specs.declared.line.Line.{Line}
use Rattle.document_server.specs.declared.session.End.{End}
use Rattle.document_server.specs.declared.session.End.TheVariants as session
use Rattle.feed_recovery.specs.declared.fault.LoadFault.{LoadFault}
use Rattle.feed_recovery.specs.declared.fault.LoadFault.TheVariants as load
use Rattle.feed_commands.specs.declared.commands.serve.SessionFault.{SessionFault}
use Rattle.command_ends.specs.Answer.{Prints}
use Rattle.command_ends.specs.Ends.{CountsOutput, IsDone}
use Rattle.command_ends.specs.StoreFaults.{load_fault}
use Rattle.command_ends.specs.declared.fault.Fault.TheVariants.{Disk, NoMemory}
use Rattle.command_ends.proofs.AnsweredLemmas.{done-sent}
use Rattle.command_ends.proofs.EndLemmas.{no_done, no_output}
use Rattle.store_commands.proofs.CountLemmas.{counts-as}
use Rattle.doc_source.specs.Outside.{SinkState, TakesPrefix}
use Rattle.feed_commands.specs.Serve.{IsOpened, end_fault, fault_status, fault_text, session_line, session_status, session_text}
use Rattle.command_ends.specs.Status.{code_of}
use Rattle.command_ends.proofs.PrintLemmas.{prints-from}

-- the lines before one, that line, and those after it
lines-split : (lines : List Line) (i : ℕ) (d : Line) → i < length lines
    → flat_map session_line lines
    ≡ flat_map session_line (take i lines) ++ (session_line (get_or lines i d) ++ flat_map session_line
    (drop (suc i) lines))
lines-split lines i d inside =
    ap (flat_map session_line) (sym (take-append-drop i lines))
    ∙ flat_map-append session_line (take i lines) (drop i lines)
    ∙ ap (λ (more : List Line). flat_map session_line (take i lines) ++ flat_map session_line more)
    (drop-cons lines i d inside)

-- the output failed within a line of a connection
pub line-prefix : (before mid after : SinkState) (lines : List Line) (i : ℕ) (d : Line) (fault : Option SessionFault)
    (bytes : List ℕ) → i < length lines → bytes ≡ session_line (get_or lines i d)
    → mid.taken ≡ before.taken ++ flat_map session_line (take i lines) → TakesPrefix mid after bytes
    → TakesPrefix before after (session_text lines fault)
line-prefix before mid after lines i d fault bytes inside is taken prefix =
    let front = flat_map session_line (take i lines) in
    let line = session_line (get_or lines i d) in
    let rest = flat_map session_line (drop (suc i) lines) in
    takes_more before mid after front line (rest ++ fault_text fault) (session_text lines fault)
    (ap (λ (x : List ℕ). x ++ fault_text fault) (lines-split lines i d inside)
    ∙ append_assoc front (line ++ rest) (fault_text fault)
    ∙ ap (λ (x : List ℕ). front ++ x) (append_assoc line rest (fault_text fault)))
    taken (subst (TakesPrefix mid after) is prefix)

-- all lines of the connections were taken, and of the fault's a prefix
pub fault-prefix : (before mid after : SinkState) (lines : List Line) (i : ℕ) (fault : Option SessionFault)
    (bytes : List ℕ)
    → length lines ≤ i → bytes ≡ fault_text fault
    → mid.taken ≡ before.taken ++ flat_map session_line (take i lines) → TakesPrefix mid after bytes
    → TakesPrefix before after (session_text lines fault)
fault-prefix before mid after lines i fault bytes all is taken prefix =
    takes_more before mid after (flat_map session_line lines) bytes [] (session_text lines fault)
    (ap (λ (x : List ℕ). flat_map session_line lines ++ x) (sym (append-nil bytes ∙ is)))
    (taken ∙ ap (λ (l : List Line). before.taken ++ flat_map session_line l) (take_all i lines all)) prefix

-- the lines and the fault are those of the session
pub session-prints : {T E : Type 0} (r : Result T E) (before after : SinkState) (shown lines : List Line)
    (observable fault : Option SessionFault) → shown ≡ lines → observable ≡ fault → TakesPrefix before after
    (session_text shown observable)
    → OnOk r (after.taken ≡ before.taken ++ session_text shown observable) → HasCause before.faults after.faults r
    → Prints before after (session_text lines fault)
session-prints r before after shown lines observable fault same_lines same_fault prefix whole cause =
    let same : session_text shown observable ≡ session_text lines fault =
    ap (λ (l : List Line). session_text l observable) same_lines ∙ ap (session_text lines) same_fault in
    subst (Prints before after) same (prints-from r before after (session_text shown observable) prefix whole cause)

-- the status of the session's end, or that of a failed output after the defined end
pub session-status : (end : End) (observable : Option SessionFault) (printed : Result (Unit {0}) Failed) (ended : ℕ)
    → observable ≡ end_fault end → ended ≡ code_of (session_status observable printed)
    → (ended ≡ code_of (fault_status (end_fault end))) ⊎ ((end ≡ session.Done) × (ended ≡ 8))
session-status session.Done observable (Ok printed) ended same is =
    inl (is ∙ ap (λ f. code_of (session_status f (Ok printed))) same)
session-status session.Done observable (Err failed) ended same is =
    inr (refl, is ∙ ap (λ f. code_of (session_status f (Err failed))) same)
session-status (session.Load fault) observable printed ended same is =
    inl (is ∙ ap (λ f. code_of (session_status f printed)) same)
session-status session.DiskFault observable printed ended same is =
    inl (is ∙ ap (λ f. code_of (session_status f printed)) same)
session-status session.DoorFault observable printed ended same is =
    inl (is ∙ ap (λ f. code_of (session_status f printed)) same)
session-status session.NoMemory observable printed ended same is =
    inl (is ∙ ap (λ f. code_of (session_status f printed)) same)

-- nothing was served
pub unopened-end : (end : End) → ¬ IsOpened end
    → (end ≡ session.NoMemory) ⊎ ((fault : LoadFault) × (end ≡ session.Load fault))
unopened-end session.Done closed = absurd (closed tt)
unopened-end (session.Load fault) closed = inr (fault, refl)
unopened-end session.DiskFault closed = absurd (closed tt)
unopened-end session.DoorFault closed = absurd (closed tt)
unopened-end session.NoMemory closed = inl refl

pub opened-load : (end : End) (fault : LoadFault) → IsOpened end → end ≡ session.Load fault → ⊥
opened-load end fault opened is = subst IsOpened is opened

-- without a fault the session came to its defined end, or memory ran out
pub served-whole : (end : End) (observable : Option SessionFault) (printed : Result (Unit {0}) Failed)
    (ended before after : ℕ)
    → observable ≡ end_fault end → ended ≡ code_of (session_status observable printed)
    → ((fault : LoadFault) → end ≡ session.Load fault → (fault ≡ load.DiskFault) ⊎ (fault ≡ load.NoMemory))
    → (end ≡ session.DiskFault → ⊥) → (end ≡ session.Load load.DiskFault → ⊥) → (end ≡ session.DoorFault → ⊥)
    → HasCause before after printed → ¬ HasRisen before after → (ended ≡ 0) ⊎ (ended ≡ 5)
served-whole session.Done observable (Ok printed) ended before after same is only disk load_disk door cause none =
    inl (is ∙ ap (λ f. code_of (session_status f (Ok printed))) same)
served-whole session.Done observable (Err failed) ended before after same is only disk load_disk door cause none =
    absurd (none cause.failed)
served-whole (session.Load fault) observable printed ended before after same is only disk load_disk door cause none =
    ⊎_elim (λ e. absurd (load_disk (ap session.Load e)))
    (λ e. inr (is ∙ ap (λ f. code_of (session_status f printed)) (same ∙ ap (λ f. end_fault (session.Load f)) e)))
    (only fault refl)
served-whole session.DiskFault observable printed ended before after same is only disk load_disk door cause none =
    absurd (disk refl)
served-whole session.DoorFault observable printed ended before after same is only disk load_disk door cause none =
    absurd (door refl)
served-whole session.NoMemory observable printed ended before after same is only disk load_disk door cause none =
    inr (is ∙ ap (λ f. code_of (session_status f printed)) same)

-- The exit status says how the session ended

-- the code of the status after this end
abbrev pub code_at : End → Result (Unit {0}) Failed → ℕ
code_at end printed = code_of (session_status (end_fault end) printed)

-- it is one of six
abbrev pub IsServeCode : ℕ → Type 0
IsServeCode n = (n ≡ 0) ⊎ (n ≡ 4) ⊎ (n ≡ 5) ⊎ (n ≡ 6) ⊎ (n ≡ 7) ⊎ (n ≡ 8)

pub serve-code : (end : End) (printed : Result (Unit {0}) Failed) → IsServeCode (code_at end printed)
serve-code session.Done (Ok whole) = inl refl
serve-code session.Done (Err failed) = inr (inr (inr (inr (inr refl))))
serve-code (session.Load load.NotInit) printed = inr (inr (inr (inl refl)))
serve-code (session.Load (load.BadRecord area index at)) printed = inr (inr (inr (inl refl)))
serve-code (session.Load (load.SealCount records seals)) printed = inr (inr (inr (inl refl)))
serve-code (session.Load (load.BadSeal index)) printed = inr (inr (inr (inl refl)))
serve-code (session.Load load.DiskFault) printed = inr (inl refl)
serve-code (session.Load load.NoMemory) printed = inr (inr (inl refl))
serve-code session.DiskFault printed = inr (inl refl)
serve-code session.DoorFault printed = inr (inr (inr (inr (inl refl))))
serve-code session.NoMemory printed = inr (inr (inl refl))

disk-code : (end : End) (printed : Result (Unit {0}) Failed) → code_at end printed ≡ 4
    → (end ≡ session.DiskFault) ⊎ (end ≡ session.Load load.DiskFault)
disk-code session.Done (Ok whole) e = absurd (omega (arith, e))
disk-code session.Done (Err failed) e = absurd (omega (arith, e))
disk-code (session.Load load.NotInit) printed e = absurd (omega (arith, e))
disk-code (session.Load (load.BadRecord area index at)) printed e = absurd (omega (arith, e))
disk-code (session.Load (load.SealCount records seals)) printed e = absurd (omega (arith, e))
disk-code (session.Load (load.BadSeal index)) printed e = absurd (omega (arith, e))
disk-code (session.Load load.DiskFault) printed e = inr refl
disk-code (session.Load load.NoMemory) printed e = absurd (omega (arith, e))
disk-code session.DiskFault printed e = inl refl
disk-code session.DoorFault printed e = absurd (omega (arith, e))
disk-code session.NoMemory printed e = absurd (omega (arith, e))

door-code : (end : End) (printed : Result (Unit {0}) Failed) → code_at end printed ≡ 7 → end ≡ session.DoorFault
door-code session.Done (Ok whole) e = absurd (omega (arith, e))
door-code session.Done (Err failed) e = absurd (omega (arith, e))
door-code (session.Load load.NotInit) printed e = absurd (omega (arith, e))
door-code (session.Load (load.BadRecord area index at)) printed e = absurd (omega (arith, e))
door-code (session.Load (load.SealCount records seals)) printed e = absurd (omega (arith, e))
door-code (session.Load (load.BadSeal index)) printed e = absurd (omega (arith, e))
door-code (session.Load load.DiskFault) printed e = absurd (omega (arith, e))
door-code (session.Load load.NoMemory) printed e = absurd (omega (arith, e))
door-code session.DiskFault printed e = absurd (omega (arith, e))
door-code session.DoorFault printed e = refl
door-code session.NoMemory printed e = absurd (omega (arith, e))

-- The counts of faults after a session, by the exit status

sent-code : (end : End) (printed : Result (Unit {0}) Failed) (before after : ℕ) → HasCause before after printed
    → code_at end printed ≡ 8 → HasRisen before after
sent-code session.Done (Ok whole) before after cause e = absurd (omega (arith, e))
sent-code session.Done (Err failed) before after cause e = cause.failed
sent-code (session.Load fault) printed before after cause e = absurd (no_output (load_fault fault) e)
sent-code session.DiskFault printed before after cause e = absurd (omega (arith, e))
sent-code session.DoorFault printed before after cause e = absurd (omega (arith, e))
sent-code session.NoMemory printed before after cause e = absurd (omega (arith, e))

done-code : (end : End) (printed : Result (Unit {0}) Failed) (before after : ℕ) → HasCause before after printed
    → IsDone (code_at end printed) → after ≡ before
done-code session.Done (Ok whole) before after cause done = cause.worked
done-code session.Done (Err failed) before after cause done = absurd (done-sent 8 done refl)
done-code (session.Load fault) printed before after cause done = absurd (no_done (load_fault fault) done)
done-code session.DiskFault printed before after cause done = absurd (no_done Disk done)
done-code session.DoorFault printed before after cause done =
    absurd (⊎_elim (λ e. omega (arith, e)) (λ e. omega (arith, e)) done)
done-code session.NoMemory printed before after cause done = absurd (no_done NoMemory done)

module _ (end : End) (printed : Result (Unit {0}) Failed) (ended before after : ℕ) (is : ended ≡ code_at end printed) where
  pub disk-counts : CountsFault before after ((end ≡ session.DiskFault) ⊎ (end ≡ session.Load load.DiskFault))
      → CountsFault before after (ended ≡ 4)
  disk-counts = counts-as
      (λ same. is ∙ ⊎_elim (λ e. ap (λ (x : End). code_at x printed) e) (λ e. ap (λ (x : End). code_at x printed) e) same)
      (λ e. disk-code end printed (sym is ∙ e))

  pub door-counts : CountsFault before after (end ≡ session.DoorFault) → CountsFault before after (ended ≡ 7)
  door-counts = counts-as (λ e. is ∙ ap (λ (x : End). code_at x printed) e)
      (λ e. door-code end printed (sym is ∙ e))

  pub output-counts : HasCause before after printed → CountsOutput before after ended
  output-counts cause = record {
    later = cause.later;
    failed = λ e. sent-code end printed before after cause (sym is ∙ e);
    whole = λ done. done-code end printed before after cause (subst IsDone is done);
  }
