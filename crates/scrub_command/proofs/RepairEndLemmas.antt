-- What a repair leaves, by how its command ends.
use Rattle.std.proofs.Common.{◌≡◌, ◌⊎◌, inl, inr, ⊎_elim, ℕ, Result, Ok, Err, refl, sym, ap, ◌∙◌, arith}
use Rattle.command_ends.specs.Fault.{fault_answer}
use Rattle.command_ends.specs.Status.{code_of}
use Rattle.command_ends.specs.declared.fault.Fault.{Fault}
use Rattle.command_ends.specs.declared.fault.Fault.TheVariants as faults
use Rattle.command_ends.specs.declared.status.Status.{Status}
use Rattle.command_ends.specs.declared.status.Status.TheVariants.{Done, Usage, Incomplete, Rejected, DiskFault}
use Rattle.command_ends.specs.declared.status.Status.TheVariants.{NoMemory, BadStore, DoorFault, FetchFault}
use Rattle.command_ends.specs.declared.status.Status.TheVariants.{OutputFault, InputFault, BadInput, Full, Refused}
use Rattle.feed_disk.specs.Disk.{DiskState}
use Rattle.feed_disk.specs.declared.area.Area.{Area}
use Rattle.feed_disk.specs.declared.area.Area.TheVariants.{Journal, Sealed}
use Rattle.feed_disk.proofs.MomentLemmas.{always_begins}
use Rattle.feed_journal.specs.Records.{records}
use Rattle.scrub_command.specs.Answer.{EndsRepairing, EndsWithStatus, repair_fault}
use Rattle.std.specs.Prelude.{IsErrAnd, IsOk}
use Rattle.store_scrub.specs.Repair.{LeavesUnwritten, RepairsSafely, SettlesStore, StopsFull}
use Rattle.store_scrub.specs.declared.fault.RepairFault.{RepairFault}
use Rattle.store_scrub.specs.declared.fault.RepairFault.TheVariants as repairs

-- what a repair leaves whose command has this result
abbrev pub LeavesRepaired : {A : Type 0} → DiskState → DiskState → Result A Fault → Type 0
LeavesRepaired before after result =
    EndsRepairing before after (IsOk result) (EndsWithStatus result Full) (EndsWithStatus result BadStore)

-- a repair that stops at status `Full` found no room
full_cause : (fault : RepairFault) → (fault_answer (repair_fault fault)).status ≡ Full
    → (size : ℕ) × (needed : ℕ) × (capacity : ℕ) × (fault ≡ repairs.Full size needed capacity)
full_cause repairs.NotInit e = absurd cc
full_cause (repairs.BadRecord area index at) e = absurd cc
full_cause (repairs.Full size needed capacity) e = (size, needed, capacity, refl)
full_cause repairs.DiskFault e = absurd cc
full_cause repairs.NoMemory e = absurd cc

-- a repair that stops at status `BadStore` found no history
bad_cause : (fault : RepairFault) → (fault_answer (repair_fault fault)).status ≡ BadStore
    → (fault ≡ repairs.NotInit)
    ⊎ ((area : Area) × (index : ℕ) × (at : ℕ) × (fault ≡ repairs.BadRecord area index at))
bad_cause repairs.NotInit e = inl refl
bad_cause (repairs.BadRecord area index at) e = inr (area, index, at, refl)
bad_cause (repairs.Full size needed capacity) e = absurd cc
bad_cause repairs.DiskFault e = absurd cc
bad_cause repairs.NoMemory e = absurd cc

module _ {A : Type 0} (before after : DiskState) where
  pub ends-repaired : (line : A) → RepairsSafely before after → SettlesStore before after
      → LeavesRepaired before after (Ok line)
  ends-repaired line safe settles = record {
    safe = safe;
    settles = λ _. settles;
    stops = λ (fault, is, status). absurd cc;
    unwritten = λ (fault, is, status). absurd cc;
  }

  -- memory ran out for the line
  pub ends-unprinted : (result : Result A Fault) → IsErrAnd result (λ fault. fault ≡ faults.NoMemory)
      → RepairsSafely before after → LeavesRepaired before after result
  ends-unprinted (Ok line) fails safe = absurd fails
  ends-unprinted (Err cause) fails safe = record {
    safe = safe;
    settles = λ done. absurd cc;
    stops = λ (fault, is, status).
        let same : faults.NoMemory ≡ fault = cc in
        let other : NoMemory ≡ Full = ap (λ (f : Fault). (fault_answer f).status) same ∙ status in absurd cc;
    unwritten = λ (fault, is, status).
        let same : faults.NoMemory ≡ fault = cc in
        let other : NoMemory ≡ BadStore = ap (λ (f : Fault). (fault_answer f).status) same ∙ status in absurd cc;
  }

  pub ends-stopped : {B : Type 0} (found : Result B RepairFault) (fault : RepairFault) → found ≡ Err fault
      → RepairsSafely before after
      → ((size needed capacity : ℕ) → found ≡ Err (repairs.Full size needed capacity)
      → StopsFull (records (before.content Journal)) (records (before.content Sealed)) (records (after.content Sealed))
      size needed capacity)
      → (found ≡ Err repairs.NotInit → LeavesUnwritten before after)
      → ((area : Area) (index at : ℕ) → found ≡ Err (repairs.BadRecord area index at) → LeavesUnwritten before after)
      → LeavesRepaired {A = A} before after (Err (repair_fault fault))
  ends-stopped found fault is safe full not_init bad_record = record {
    safe = safe;
    settles = λ done. absurd cc;
    stops = λ (other, ended, status).
        let same : repair_fault fault ≡ other = cc in
        let cause = full_cause fault (ap (λ (f : Fault). (fault_answer f).status) same ∙ status) in
        record {
          size = cause.0;
          needed = cause.1;
          capacity = cause.2;
          stops = full _ _ _ (is ∙ ap Err cause.3);
        };
    unwritten = λ (other, ended, status).
        let same : repair_fault fault ≡ other = cc in
        ⊎_elim (λ e. not_init (is ∙ ap Err e)) (λ (area, index, at, e). bad_record area index at (is ∙ ap Err e))
        (bad_cause fault (ap (λ (f : Fault). (fault_answer f).status) same ∙ status));
  }

-- no device call was made
pub repair-none : (s : DiskState) {done full refused : Type 0} → (done → ⊥) → (full → ⊥) → (refused → ⊥)
    → EndsRepairing s s done full refused
repair-none s no_done no_full no_refused = record {
  safe = λ head history kept left. record {
    journal = always_begins s Journal _ left.journal;
    sealed = always_begins s Sealed _ left.sealed;
  };
  settles = λ d. absurd (no_done d);
  stops = λ f. absurd (no_full f);
  unwritten = λ r. absurd (no_refused r);
}

-- the same ends, said in other words
pub repair-weaker : {before after : DiskState} {done full refused is_done is_full is_refused : Type 0}
    → (is_done → done) → (is_full → full) → (is_refused → refused) → EndsRepairing before after done full refused
    → EndsRepairing before after is_done is_full is_refused
repair-weaker done full refused ends = record {
  safe = ends.safe;
  settles = λ d. ends.settles (done d);
  stops = λ f. ends.stops (full f);
  unwritten = λ r. ends.unwritten (refused r);
}

-- Two exit statuses that are each of one status alone.

pub full-code : (status : Status) → code_of status ≡ 11 → status ≡ Full
full-code Done e = absurd (omega (arith, e))
full-code Usage e = absurd (omega (arith, e))
full-code Incomplete e = absurd (omega (arith, e))
full-code Rejected e = absurd (omega (arith, e))
full-code DiskFault e = absurd (omega (arith, e))
full-code NoMemory e = absurd (omega (arith, e))
full-code BadStore e = absurd (omega (arith, e))
full-code DoorFault e = absurd (omega (arith, e))
full-code FetchFault e = absurd (omega (arith, e))
full-code OutputFault e = absurd (omega (arith, e))
full-code InputFault e = absurd (omega (arith, e))
full-code BadInput e = absurd (omega (arith, e))
full-code Full e = refl
full-code Refused e = absurd (omega (arith, e))

pub bad-code : (status : Status) → code_of status ≡ 6 → status ≡ BadStore
bad-code Done e = absurd (omega (arith, e))
bad-code Usage e = absurd (omega (arith, e))
bad-code Incomplete e = absurd (omega (arith, e))
bad-code Rejected e = absurd (omega (arith, e))
bad-code DiskFault e = absurd (omega (arith, e))
bad-code NoMemory e = absurd (omega (arith, e))
bad-code BadStore e = refl
bad-code DoorFault e = absurd (omega (arith, e))
bad-code FetchFault e = absurd (omega (arith, e))
bad-code OutputFault e = absurd (omega (arith, e))
bad-code InputFault e = absurd (omega (arith, e))
bad-code BadInput e = absurd (omega (arith, e))
bad-code Full e = absurd (omega (arith, e))
bad-code Refused e = absurd (omega (arith, e))

module _ {A : Type 0} {result : Result A Fault} {fault : Fault} {ended : ℕ} where
  -- a fault whose status has this code ended the command
  pub ends-full : result ≡ Err fault → ended ≡ code_of (fault_answer fault).status → ended ≡ 11
      → EndsWithStatus result Full
  ends-full is status e = (fault, is, full-code _ (sym status ∙ e))

  pub ends-bad : result ≡ Err fault → ended ≡ code_of (fault_answer fault).status → ended ≡ 6
      → EndsWithStatus result BadStore
  ends-bad is status e = (fault, is, bad-code _ (sym status ∙ e))
