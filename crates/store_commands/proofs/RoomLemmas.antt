-- The store after a line, by the room of its two areas.
use Rattle.std.proofs.Common.{◌≡◌, ◌≢◌, ◌⊎◌, inl, inr, ℕ, ◌+◌, ◌<◌, ◌≤◌, ◌==◌, ◌||◌, not, true, false, nat_le, List, [], ◌∷◌}
use Rattle.std.proofs.Common.{◌++◌, length, Ok, Err, refl, sym, ◌∙◌, ap, subst, arith, rules, tests}
use Rattle.std.specs.Prelude.{Option, Some, None, if◌then◌else◌, option_and_then}
use Rattle.std.proofs.lemmas.Bool.{cases_eq}
use Rattle.atom_writer.specs.Pieced.{text_of}
use Rattle.feed_disk.specs.declared.area.Area.{Area}
use Rattle.feed_disk.specs.declared.area.Area.TheVariants.{Journal, Sealed}
use Rattle.feed_journal.specs.Limits.{header_length}
use Rattle.feed_journal.specs.Records.{size_of}
use Rattle.feed_recovery.specs.Documents.{sealed_count}
use Rattle.feed_recovery.specs.Opening.{journal_of}
use Rattle.feed_recovery.specs.Prepare.{Fits, IsDueSeal, IsFull, IsFullArea, IsMissing, IsPrepareFault, MayCommit, ReadyValue, SealFits, decision_of, next_seal}
use Rattle.feed_recovery.specs.Store.{StoreValue, seal_count}
use Rattle.feed_recovery.specs.declared.fault.PrepareFault.{PrepareFault}
use Rattle.feed_recovery.specs.declared.fault.PrepareFault.TheVariants as prepare
use Rattle.feed_recovery.specs.Stored.{Stored, seals_of, stored_of}
use Rattle.command_ends.specs.declared.fault.Fault.TheVariants.{Full}
use Rattle.store_commands.specs.Apply.{asked, refused_line, ◌>>=◌}
use Rattle.command_ends.specs.Fault.{IsRefusal}
use Rattle.store_commands.specs.Line.{line_ask}
use Rattle.store_commands.specs.Loaded.{line_made}
use Rattle.command_ends.specs.StoreFaults.{prepare_fault}
use Rattle.store_commands.specs.Stored.{missing_seal, operation_fault, room_fault, seal_fault, stored_operation, with_operation}
use Rattle.member_rules.specs.Coding.{operations}
use Rattle.member_rules.specs.Head.{HeadValue}
use Rattle.member_rules.specs.Windows.{windows_of}
use Rattle.member_rules.specs.declared.ask.Ask.{Ask}
use Rattle.member_rules.specs.declared.operation.Op.{Op}

room-none : (area : Area) (capacity size : ℕ) (payload : List ℕ)
    → size + (length payload + header_length) ≤ capacity → room_fault area capacity size payload ≡ None
room-none area capacity size payload fits =
    let e : nat_le (size + (length payload + header_length)) capacity ≡ true = search (rules, tests) in rw e refl

room-full : (area : Area) (capacity size : ℕ) (payload : List ℕ)
    → capacity < size + (length payload + header_length)
    → room_fault area capacity size payload ≡ Some (Full area size (length payload + header_length) capacity)
room-full area capacity size payload over =
    let e : nat_le (size + (length payload + header_length)) capacity ≡ false = search (rules, tests) in rw e refl

-- where a seal is missing, it comes before the next operation
seal-some : (full sealed seals : ℕ) (seal : List ℕ) → full ≢ sealed → seals ≡ sealed
    → (if (full == sealed) || not (seals == sealed) then None else Some seal) ≡ Some seal
seal-some full sealed seals seal other same =
    let e : (full == sealed) ≡ false = search (rules, tests) in
    let f : (seals == sealed) ≡ true = search (rules, tests) in
    rw (e, f) refl

seal-none : (full sealed seals : ℕ) (seal : List ℕ) → (full ≢ sealed → seals ≡ sealed → ⊥)
    → (if (full == sealed) || not (seals == sealed) then None else Some seal) ≡ None
seal-none full sealed seals seal none = elim (cases_eq full sealed) [
  | inl same ↦ let e : (full == sealed) ≡ true = search (rules, tests) in rw e refl
  | inr other ↦
      let apart : seals ≢ sealed = none other in
      let e : (full == sealed) ≡ false = search (rules, tests) in
      let f : (seals == sealed) ≡ false = search (rules, tests) in
      rw (e, f) refl
]

-- a seal is missing, or none is
some-seal : (full sealed seals : ℕ) → ((full ≢ sealed) × (seals ≡ sealed)) ⊎ (full ≢ sealed → seals ≡ sealed → ⊥)
some-seal full sealed seals = elim (cases_eq full sealed) [
  | inl same ↦ inr (λ other _. other same)
  | inr other ↦ elim (cases_eq seals sealed) [
    | inl is ↦ inl (other, is)
    | inr isnt ↦ inr (λ _ is. isnt is)
  ]
]

module _ (store : StoreValue) where
  due-is : (seal : Option (List ℕ)) → IsDueSeal store seal → missing_seal (stored_of store) ≡ seal
  due-is None due =
      let windows = windows_of store.head store.history in
      seal-none windows.full windows.sealed (seal_count store) (next_seal store) (λ other same. due (other, same))
  due-is (Some seal) due =
      let windows = windows_of store.head store.history in
      seal-some windows.full windows.sealed (seal_count store) (next_seal store) due.0.0 due.0.1
      ∙ ap Some (sym due.1)

  some-due : (seal : Option (List ℕ)) × IsDueSeal store seal
  some-due =
      let windows = windows_of store.head store.history in
      elim (some-seal windows.full windows.sealed (seal_count store)) [
        | inl missing ↦ (Some (next_seal store), (missing, refl))
        | inr none ↦ (None, λ missing. none missing.0 missing.1)
      ]

  module _ (journal_size : store.journal.size ≡ size_of (journal_of store.head store.history))
      (seals_size : store.seals.size ≡ size_of (seals_of store.head store.history (seal_count store))) where
    seal-fits : (seal : Option (List ℕ)) → missing_seal (stored_of store) ≡ seal → SealFits store seal
        → seal_fault (stored_of store) ≡ None
    seal-fits None is fits =
        ap (option_and_then (room_fault Sealed store.head.capacity
        (size_of (seals_of store.head store.history (seal_count store))))) is
    seal-fits (Some seal) is fits =
        ap (option_and_then (room_fault Sealed store.head.capacity
        (size_of (seals_of store.head store.history (seal_count store))))) is
        ∙ room-none Sealed store.head.capacity _ seal (omega (arith, fits, seals_size))

    seal-full : (size needed capacity : ℕ) → capacity ≡ store.head.capacity → IsMissing store
        → IsFull store.seals (next_seal store) size needed capacity
        → seal_fault (stored_of store) ≡ Some (Full Sealed size needed capacity)
    seal-full size needed capacity same missing full =
        ap (option_and_then (room_fault Sealed store.head.capacity
        (size_of (seals_of store.head store.history (seal_count store)))))
        (due-is (Some (next_seal store)) (missing, refl))
        ∙ room-full Sealed store.head.capacity _ (next_seal store)
        (omega (arith, full.over, full.is_size, full.is_needed, seals_size, same))
        ∙ ap (λ (n : ℕ). Some (Full Sealed n (length (next_seal store) + header_length) store.head.capacity))
        (sym seals_size ∙ sym full.is_size)
        ∙ ap (λ (n : ℕ). Some (Full Sealed size n store.head.capacity)) (sym full.is_needed)
        ∙ ap (λ (n : ℕ). Some (Full Sealed size needed n)) (sym same)

    operation-fits : (operation : Op) → Fits store.journal (text_of operations operation) store.head.capacity
        → operation_fault (stored_of store) operation ≡ None
    operation-fits operation fits =
        room-none Journal store.head.capacity _ (text_of operations operation) (omega (arith, fits, journal_size))

    operation-full : (operation : Op) (size needed capacity : ℕ) → capacity ≡ store.head.capacity
        → IsFull store.journal (text_of operations operation) size needed capacity
        → operation_fault (stored_of store) operation ≡ Some (Full Journal size needed capacity)
    operation-full operation size needed capacity same full =
        room-full Journal store.head.capacity _ (text_of operations operation)
        (omega (arith, full.over, full.is_size, full.is_needed, journal_size, same))
        ∙ ap (λ (n : ℕ).
        Some (Full Journal n (length (text_of operations operation) + header_length) store.head.capacity))
        (sym journal_size ∙ sym full.is_size)
        ∙ ap (λ (n : ℕ). Some (Full Journal size n store.head.capacity)) (sym full.is_needed)
        ∙ ap (λ (n : ℕ). Some (Full Journal size needed n)) (sym same)

    committed : (ready : ReadyValue) → MayCommit store ready
        → stored_operation (stored_of store) ready.operation ≡ Ok (with_operation (stored_of store) ready.operation)
    committed ready may =
        let sealed = seal-fits ready.seal (due-is ready.seal may.seal) may.seal_fits in
        let fits = operation-fits ready.operation may.fits in
        rw (sealed, fits) refl

    full-area : (operation : Op) (area : Area) (size needed capacity : ℕ)
        → IsFullArea store operation area size needed capacity
        → stored_operation (stored_of store) operation ≡ Err (Full area size needed capacity)
    full-area operation area size needed capacity (same, inl (is_area, missing, full)) =
        let e = seal-full size needed capacity same missing full in rw (e, is_area) refl
    full-area operation area size needed capacity (same, inr (is_area, fits, full)) =
        let due = some-due in
        let sealed = seal-fits due.0 (due-is due.0 due.1) (fits due.0 due.1) in
        let e = operation-full operation size needed capacity same full in
        rw (sealed, e, is_area) refl

    -- the line asks for what the rules or the room refuse
    pub line-refused : (number now : ℕ) (line : List ℕ) (ask : Ask) (fault : PrepareFault) → line_ask line ≡ Some ask
        → IsPrepareFault store ask now fault → IsRefusal (prepare_fault number fault)
        → line_made store number now line ≡ Err (prepare_fault number fault)
    line-refused number now line ask (prepare.Rule fault) asks is refusal =
        ap (λ a. asked store.head store.history number now a >>= stored_operation (stored_of store)) asks
        ∙ ap (λ r. refused_line number r >>= stored_operation (stored_of store)) is
    line-refused number now line ask (prepare.Full area size needed capacity) asks (operation, decided, full) refusal =
        ap (λ a. asked store.head store.history number now a >>= stored_operation (stored_of store)) asks
        ∙ ap (λ r. refused_line number r >>= stored_operation (stored_of store)) decided
        ∙ full-area operation area size needed capacity full
    line-refused number now line ask prepare.NoMemory asks is refusal = absurd refusal

    -- the line asks for an operation that is committed
    line-committed : (number now : ℕ) (line : List ℕ) (ask : Ask) (ready : ReadyValue) → line_ask line ≡ Some ask
        → decision_of store ask now ≡ Ok ready.operation → MayCommit store ready
        → line_made store number now line ≡ Ok (with_operation (stored_of store) ready.operation)
    line-committed number now line ask ready asks decided may =
        ap (λ a. asked store.head store.history number now a >>= stored_operation (stored_of store)) asks
        ∙ ap (λ r. refused_line number r >>= stored_operation (stored_of store)) decided
        ∙ committed ready may

-- the store after a commit
committed-store : (stored : Stored) (operation : Op) (head : HeadValue) (history : List Op) (seals : ℕ)
    → head ≡ stored.head → history ≡ stored.history ++ operation ∷ [] → seals ≡ (windows_of head history).sealed
    → with_operation stored operation ≡ record { head = head; history = history; seals = seals }
committed-store stored operation head history seals is_head is_history is_sealed =
    rw (is_sealed, is_head, is_history) refl

-- the line asks for an operation that was prepared, which took room alone
pub line-prepared : (old prepared : StoreValue) (members journal seals spare : ℕ)
    → prepared
    ≡ record old {
      members = record old.members { spare = members };
      journal = record old.journal { spare = journal };
      seals = record old.seals { spare = seals };
      spare = spare;
    }
    → old.journal.size ≡ size_of (journal_of old.head old.history)
    → old.seals.size ≡ size_of (seals_of old.head old.history (seal_count old))
    → (number now : ℕ) (line : List ℕ) (ask : Ask) (ready : ReadyValue) → line_ask line ≡ Some ask
    → decision_of old ask now ≡ Ok ready.operation → MayCommit prepared ready
    → line_made old number now line ≡ Ok (with_operation (stored_of old) ready.operation)
line-prepared old prepared members journal seals spare same journal_size seals_size number now line ask ready asks
    decided may =
    let roomy : StoreValue = record old {
      members = record old.members { spare = members };
      journal = record old.journal { spare = journal };
      seals = record old.seals { spare = seals };
      spare = spare;
    } in
    line-committed roomy journal_size seals_size number now line ask ready asks decided
    (subst (λ (s : StoreValue). MayCommit s ready) same may)

-- and that was then committed
pub line-made : (old prepared new : StoreValue) (members journal seals spare : ℕ)
    → prepared
    ≡ record old {
      members = record old.members { spare = members };
      journal = record old.journal { spare = journal };
      seals = record old.seals { spare = seals };
      spare = spare;
    }
    → old.journal.size ≡ size_of (journal_of old.head old.history)
    → old.seals.size ≡ size_of (seals_of old.head old.history (seal_count old))
    → (number now : ℕ) (line : List ℕ) (ask : Ask) (ready : ReadyValue) → line_ask line ≡ Some ask
    → decision_of old ask now ≡ Ok ready.operation → MayCommit prepared ready
    → new.head ≡ prepared.head → new.history ≡ prepared.history ++ ready.operation ∷ []
    → seal_count new ≡ sealed_count new → line_made old number now line ≡ Ok (stored_of new)
line-made old prepared new members journal seals spare same journal_size seals_size number now line ask ready asks
    decided may is_head is_history is_sealed =
    line-prepared old prepared members journal seals spare same journal_size seals_size number now line ask ready asks
    decided may
    ∙ ap (λ (s : Stored). Ok s)
    (committed-store (stored_of old) ready.operation new.head new.history (seal_count new)
    (is_head ∙ ap (λ (s : StoreValue). s.head) same)
    (is_history ∙ ap (λ (s : StoreValue). s.history ++ ready.operation ∷ []) same) is_sealed)
