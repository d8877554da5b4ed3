-- The lines that the output took, and how the program ends after a session.
use Rattle.std.proofs.Common.{◌≡◌, ℕ, suc, ◌<◌, List, [], ◌++◌, length, take, drop, get_or, flat_map, ap, sym, ◌∙◌}
use Rattle.std.proofs.Common.{append_assoc, append-nil, subst, ◌≤◌, ◌⊎◌, inl, inr, ⊎_elim, refl, Result, Ok, Err, arith}
use Rattle.std.proofs.Math.Seq.{drop-cons}
use Rattle.std.proofs.lemmas.Grind.{flat_map-append}
use Rattle.std.proofs.lemmas.List.{take-append-drop, take_all}
use Rattle.atom_values.specs.Counts.{CountsFault, HasCause, HasRisen}
use Rattle.atom_values.specs.declared.memory.Failed.{Failed}
use Rattle.command_ends.specs.Ends.{CountsOutput}
use Rattle.command_ends.specs.Fault.{connection_line}
use Rattle.command_ends.specs.Status.{code_of}
use Rattle.doc_source.proofs.WriteLemmas.{takes_more}
use Rattle.doc_source.specs.Outside.{SinkState, TakesPrefix}
use Rattle.document_server.proofs.StepLemmas.{counts-as}
use Rattle.mirror_walk.specs.declared.mirror_fault.MirrorFault.{MirrorFault}
use Rattle.mirror_walk.specs.declared.mirror_fault.MirrorFault.TheVariants as load
use Rattle.relay_command.specs.Relay.{MayEndRelaying, end_answer, session_status, session_text}
use Rattle.relay_command.specs.declared.session.End.{End}
use Rattle.relay_command.specs.declared.session.End.TheVariants.{Done, Load, DiskFault, DoorFault, NoMemory}
use Rattle.relay_command.specs.declared.session.Served.{Served}

-- the line of a connection
abbrev pub text_of : Served → List ℕ
text_of line = connection_line line.status line.version

-- the lines before one, that line, and those after it
lines-split : (lines : List Served) (i : ℕ) (d : Served) → i < length lines
    → flat_map text_of lines
    ≡ flat_map text_of (take i lines) ++ (text_of (get_or lines i d) ++ flat_map text_of (drop (suc i) lines))
lines-split lines i d inside =
    ap (flat_map text_of) (sym (take-append-drop i lines))
    ∙ flat_map-append text_of (take i lines) (drop i lines)
    ∙ ap (λ (more : List Served). flat_map text_of (take i lines) ++ flat_map text_of more)
    (drop-cons lines i d inside)

-- the output failed within a line of a connection
pub line-prefix : (before mid after : SinkState) (lines : List Served) (i : ℕ) (d : Served) (end : End)
    (bytes : List ℕ) → i < length lines → bytes ≡ text_of (get_or lines i d)
    → mid.taken ≡ before.taken ++ flat_map text_of (take i lines) → TakesPrefix mid after bytes
    → TakesPrefix before after (session_text lines end)
line-prefix before mid after lines i d end bytes inside is taken prefix =
    let front = flat_map text_of (take i lines) in
    let line = text_of (get_or lines i d) in
    let rest = flat_map text_of (drop (suc i) lines) in
    let last = (end_answer end).printed in
    takes_more before mid after front line (rest ++ last) (session_text lines end)
    (ap (λ (x : List ℕ). x ++ last) (lines-split lines i d inside)
    ∙ append_assoc front (line ++ rest) last
    ∙ ap (λ (x : List ℕ). front ++ x) (append_assoc line rest last))
    taken (subst (TakesPrefix mid after) is prefix)

-- all lines of the connections were taken, and of the end's a prefix
pub end-prefix : (before mid after : SinkState) (lines : List Served) (i : ℕ) (end : End)
    → length lines ≤ i → mid.taken ≡ before.taken ++ flat_map text_of (take i lines)
    → TakesPrefix mid after (end_answer end).printed → TakesPrefix before after (session_text lines end)
end-prefix before mid after lines i end all taken prefix =
    let last = (end_answer end).printed in
    takes_more before mid after (flat_map text_of lines) last [] (session_text lines end)
    (ap (λ (x : List ℕ). flat_map text_of lines ++ x) (sym (append-nil last)))
    (taken ∙ ap (λ (l : List Served). before.taken ++ flat_map text_of l) (take_all i lines all)) prefix

-- all lines were taken, and all of the end's
pub text-whole : (before mid after : SinkState) (lines : List Served) (i : ℕ) (end : End)
    → length lines ≤ i → mid.taken ≡ before.taken ++ flat_map text_of (take i lines)
    → after.taken ≡ mid.taken ++ (end_answer end).printed → after.taken ≡ before.taken ++ session_text lines end
text-whole before mid after lines i end all taken whole =
    let last = (end_answer end).printed in
    whole ∙ ap (λ (x : List ℕ). x ++ last)
    (taken ∙ ap (λ (l : List Served). before.taken ++ flat_map text_of l) (take_all i lines all))
    ∙ append_assoc before.taken (flat_map text_of lines) last

-- The exit status says how the session ended

abbrev code_at : End → Result (Unit {0}) Failed → ℕ
code_at end printed = code_of (session_status end printed)

-- the status of the session's end, or that of a failed output after the defined end
status-at : (end : End) (printed : Result (Unit {0}) Failed)
    → (code_at end printed ≡ code_of (end_answer end).status) ⊎ ((end ≡ Done) × (code_at end printed ≡ 8))
status-at Done (Ok whole) = inl refl
status-at Done (Err failed) = inr (refl, refl)
status-at (Load fault) printed = inl refl
status-at DiskFault printed = inl refl
status-at DoorFault printed = inl refl
status-at NoMemory printed = inl refl

may-end : (end : End) (printed : Result (Unit {0}) Failed) → MayEndRelaying (code_at end printed)
may-end Done (Ok whole) = inl refl
may-end Done (Err failed) = inr (inr (inr (inr (inr (inl refl)))))
may-end (Load (load.OtherBase base)) printed = inr (inr (inr (inr (inr (inr refl)))))
may-end (Load (load.BadRecord index at)) printed = inr (inr (inr (inl refl)))
may-end (Load load.DiskFault) printed = inr (inl refl)
may-end (Load load.NoMemory) printed = inr (inr (inl refl))
may-end DiskFault printed = inr (inl refl)
may-end DoorFault printed = inr (inr (inr (inr (inl refl))))
may-end NoMemory printed = inr (inr (inl refl))

disk-code : (end : End) (printed : Result (Unit {0}) Failed) → code_at end printed ≡ 4
    → (end ≡ DiskFault) ⊎ (end ≡ Load load.DiskFault)
disk-code Done (Ok whole) e = absurd (omega (arith, e))
disk-code Done (Err failed) e = absurd (omega (arith, e))
disk-code (Load (load.OtherBase base)) printed e = absurd (omega (arith, e))
disk-code (Load (load.BadRecord index at)) printed e = absurd (omega (arith, e))
disk-code (Load load.DiskFault) printed e = inr refl
disk-code (Load load.NoMemory) printed e = absurd (omega (arith, e))
disk-code DiskFault printed e = inl refl
disk-code DoorFault printed e = absurd (omega (arith, e))
disk-code NoMemory printed e = absurd (omega (arith, e))

door-code : (end : End) (printed : Result (Unit {0}) Failed) → code_at end printed ≡ 7 → end ≡ DoorFault
door-code Done (Ok whole) e = absurd (omega (arith, e))
door-code Done (Err failed) e = absurd (omega (arith, e))
door-code (Load (load.OtherBase base)) printed e = absurd (omega (arith, e))
door-code (Load (load.BadRecord index at)) printed e = absurd (omega (arith, e))
door-code (Load load.DiskFault) printed e = absurd (omega (arith, e))
door-code (Load load.NoMemory) printed e = absurd (omega (arith, e))
door-code DiskFault printed e = absurd (omega (arith, e))
door-code DoorFault printed e = refl
door-code NoMemory printed e = absurd (omega (arith, e))

-- a status that is neither 0 nor 8 says nothing of the output
done-code : (end : End) (printed : Result (Unit {0}) Failed) (before after : ℕ) → HasCause before after printed
    → code_at end printed ≡ 0 → after ≡ before
done-code Done (Ok whole) before after cause e = cause.worked
done-code Done (Err failed) before after cause e = absurd (omega (arith, e))
done-code (Load (load.OtherBase base)) printed before after cause e = absurd (omega (arith, e))
done-code (Load (load.BadRecord index at)) printed before after cause e = absurd (omega (arith, e))
done-code (Load load.DiskFault) printed before after cause e = absurd (omega (arith, e))
done-code (Load load.NoMemory) printed before after cause e = absurd (omega (arith, e))
done-code DiskFault printed before after cause e = absurd (omega (arith, e))
done-code DoorFault printed before after cause e = absurd (omega (arith, e))
done-code NoMemory printed before after cause e = absurd (omega (arith, e))

three-code : (end : End) (printed : Result (Unit {0}) Failed) → code_at end printed ≡ 3 → ⊥
three-code Done (Ok whole) e = omega (arith, e)
three-code Done (Err failed) e = omega (arith, e)
three-code (Load (load.OtherBase base)) printed e = omega (arith, e)
three-code (Load (load.BadRecord index at)) printed e = omega (arith, e)
three-code (Load load.DiskFault) printed e = omega (arith, e)
three-code (Load load.NoMemory) printed e = omega (arith, e)
three-code DiskFault printed e = omega (arith, e)
three-code DoorFault printed e = omega (arith, e)
three-code NoMemory printed e = omega (arith, e)

sent-code : (end : End) (printed : Result (Unit {0}) Failed) (before after : ℕ) → HasCause before after printed
    → code_at end printed ≡ 8 → HasRisen before after
sent-code Done (Ok whole) before after cause e = absurd (omega (arith, e))
sent-code Done (Err failed) before after cause e = cause.failed
sent-code (Load (load.OtherBase base)) printed before after cause e = absurd (omega (arith, e))
sent-code (Load (load.BadRecord index at)) printed before after cause e = absurd (omega (arith, e))
sent-code (Load load.DiskFault) printed before after cause e = absurd (omega (arith, e))
sent-code (Load load.NoMemory) printed before after cause e = absurd (omega (arith, e))
sent-code DiskFault printed before after cause e = absurd (omega (arith, e))
sent-code DoorFault printed before after cause e = absurd (omega (arith, e))
sent-code NoMemory printed before after cause e = absurd (omega (arith, e))

-- without a fault the session came to its defined end, or memory ran out
whole-code : (end : End) (printed : Result (Unit {0}) Failed) (before after : ℕ)
    → ((fault : MirrorFault) → end ≡ Load fault → (fault ≡ load.DiskFault) ⊎ (fault ≡ load.NoMemory))
    → (end ≡ DiskFault → ⊥) → (end ≡ Load load.DiskFault → ⊥) → (end ≡ DoorFault → ⊥)
    → HasCause before after printed → ¬ HasRisen before after
    → (code_at end printed ≡ 0) ⊎ (code_at end printed ≡ 5)
whole-code Done (Ok whole) before after only disk load_disk door cause none = inl refl
whole-code Done (Err failed) before after only disk load_disk door cause none = absurd (none cause.failed)
whole-code (Load fault) printed before after only disk load_disk door cause none =
    ⊎_elim (λ e. absurd (load_disk (ap Load e)))
    (λ e. inr (ap (λ (f : MirrorFault). code_at (Load f) printed) e)) (only fault refl)
whole-code DiskFault printed before after only disk load_disk door cause none = absurd (disk refl)
whole-code DoorFault printed before after only disk load_disk door cause none = absurd (door refl)
whole-code NoMemory printed before after only disk load_disk door cause none = inr refl

module _ (end : End) (printed : Result (Unit {0}) Failed) (ended : ℕ)
    (is : ended ≡ code_of (session_status end printed)) where
  pub end-status : (ended ≡ code_of (end_answer end).status) ⊎ ((end ≡ Done) × (ended ≡ 8))
  end-status = subst (λ (n : ℕ). (n ≡ code_of (end_answer end).status) ⊎ ((end ≡ Done) × (n ≡ 8))) (sym is)
      (status-at end printed)

  pub end-may : MayEndRelaying ended
  end-may = subst MayEndRelaying (sym is) (may-end end printed)

  pub end-whole : (before after : ℕ)
      → ((fault : MirrorFault) → end ≡ Load fault → (fault ≡ load.DiskFault) ⊎ (fault ≡ load.NoMemory))
      → (end ≡ DiskFault → ⊥) → (end ≡ Load load.DiskFault → ⊥) → (end ≡ DoorFault → ⊥)
      → HasCause before after printed → ¬ HasRisen before after → (ended ≡ 0) ⊎ (ended ≡ 5)
  end-whole before after only disk load_disk door cause none =
      subst (λ (n : ℕ). (n ≡ 0) ⊎ (n ≡ 5)) (sym is)
      (whole-code end printed before after only disk load_disk door cause none)

  module _ (before after : ℕ) where
    pub disk-counts : CountsFault before after ((end ≡ DiskFault) ⊎ (end ≡ Load load.DiskFault))
        → CountsFault before after (ended ≡ 4)
    disk-counts = counts-as before after ((end ≡ DiskFault) ⊎ (end ≡ Load load.DiskFault)) (ended ≡ 4)
        (λ same. is ∙ ⊎_elim (λ e. ap (λ (x : End). code_at x printed) e) (λ e. ap (λ (x : End). code_at x printed) e) same)
        (λ e. disk-code end printed (sym is ∙ e))

    pub door-counts : CountsFault before after (end ≡ DoorFault) → CountsFault before after (ended ≡ 7)
    door-counts = counts-as before after (end ≡ DoorFault) (ended ≡ 7)
        (λ e. is ∙ ap (λ (x : End). code_at x printed) e)
        (λ e. door-code end printed (sym is ∙ e))

    pub output-counts : HasCause before after printed → CountsOutput before after ended
    output-counts cause = record {
      later = cause.later;
      failed = λ e. sent-code end printed before after cause (sym is ∙ e);
      whole = λ done.
          ⊎_elim (λ e. done-code end printed before after cause (sym is ∙ e))
          (λ e. absurd (three-code end printed (sym is ∙ e))) done;
    }
