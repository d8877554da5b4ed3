-- The answers of the commands on a store.
use Rattle.std.specs.Prelude.{◌≡◌, ◌≢◌, ◌⊎◌, ℕ, ◌+◌, List, [], ◌∷◌, ◌++◌, length, ◌==◌, ◌||◌, ◌&&◌, not, nat_le}
use Rattle.std.specs.Prelude.{if◌then◌else◌, Option, Some, None, option_map, option_and_then, unwrap_or, Result, Ok, Err, codes}
use Rattle.atom_writer.specs.Members.{member_text}
use Rattle.atom_writer.specs.Pieced.{text_of}
use Rattle.atom_writer.specs.Pieces.{text}
use Rattle.feed_disk.specs.declared.area.Area.{Area}
use Rattle.feed_disk.specs.declared.area.Area.TheVariants.{Journal, Sealed}
use Rattle.feed_journal.specs.Limits.{header_length}
use Rattle.feed_journal.specs.Records.{records, size_of}
use Rattle.feed_recovery.specs.Faults.{IsLoadFault}
use Rattle.feed_recovery.specs.Opening.{journal_of, seal_of}
use Rattle.feed_recovery.specs.Stored.{OpensTo, Stored, seals_of}
use Rattle.feed_recovery.specs.declared.fault.LoadFault.{LoadFault}
use Rattle.command_ends.specs.declared.fault.BadStore.TheVariants.{AlreadyInit}
use Rattle.command_ends.specs.declared.fault.Fault.{Fault}
use Rattle.command_ends.specs.declared.fault.Fault.TheVariants.{BadStore, Full, Refused}
use Rattle.command_ends.specs.declared.fault.Refusal.TheVariants.{NotSealed, NoMember, DeletedMember}
use Rattle.command_ends.specs.declared.status.Status.TheVariants.{Done}
use Rattle.command_ends.specs.Answer.{Answer}
use Rattle.store_commands.specs.Applied.{Applied, Step, applied}
use Rattle.store_commands.specs.Apply.{answer_by, line_operation, ◌>>=◌}
use Rattle.command_ends.specs.Fault.{fault_answer, IsRefusal}
use Rattle.command_ends.specs.StoreFaults.{load_fault}
use Rattle.member_rules.specs.Coding.{operations}
use Rattle.member_rules.specs.Documents.{archive}
use Rattle.member_rules.specs.Fold.{fold_of, state_of}
use Rattle.member_rules.specs.Windows.{windows_of}
use Rattle.member_rules.specs.declared.operation.Op.{Op}
use Rattle.member_rules.specs.declared.state.State.{State}
use Rattle.member_rules.specs.declared.state.State.TheVariants.{Never, Live, Gone}

-- the seal that comes before the next operation: that of a full window that has none
abbrev pub missing_seal : Stored → Option (List ℕ)
missing_seal stored =
    let windows = windows_of stored.head stored.history in
    if (windows.full == windows.sealed) || not (stored.seals == windows.sealed)
    then None
    else Some (seal_of stored.head stored.history (stored.seals + 1))

-- an area of this size has no room for the payload
abbrev pub room_fault : Area → ℕ → ℕ → List ℕ → Option Fault
room_fault area capacity size payload =
    let needed = length payload + header_length in
    if nat_le (size + needed) capacity then None else Some (Full area size needed capacity)

abbrev pub seal_fault : Stored → Option Fault
seal_fault stored =
    option_and_then (room_fault Sealed stored.head.capacity (size_of
    (seals_of stored.head stored.history stored.seals)))
    (missing_seal stored)

abbrev pub operation_fault : Stored → Op → Option Fault
operation_fault stored operation =
    room_fault Journal stored.head.capacity (size_of (journal_of stored.head stored.history))
    (text_of operations operation)

-- the store with one more operation, before which each full window got its seal
abbrev pub with_operation : Stored → Op → Stored
with_operation stored operation =
    let history = stored.history ++ operation ∷ [] in
    record { head = stored.head; history = history; seals = (windows_of stored.head history).sealed }

abbrev pub unless : {A : Type 0} → Option Fault → A → Result A Fault
unless None value = Ok value
unless (Some fault) value = Err fault

-- The seal's room is looked at first.
abbrev pub stored_operation : Stored → Op → Result Stored Fault
stored_operation stored operation =
    unless (seal_fault stored) (with_operation stored operation) >>= unless (operation_fault stored operation)

-- the store with the operation of a line
abbrev pub stored_step : (ℕ → ℕ) → Step Stored
stored_step moments stored before line =
    line_operation stored.head moments stored.history before line >>= stored_operation stored

-- the store after the lines of an input
abbrev pub applied_store : (ℕ → ℕ) → Stored → List ℕ → Applied Stored
applied_store moments stored input = applied (stored_step moments) stored input

-- the subscription document of the store that the input makes, or the line of the first fault
unfoldable pub apply_answer : (ℕ → ℕ) → List ℕ → Stored → Answer
apply_answer moments input stored =
    let made = applied_store moments stored input in answer_by made.feed.head made.feed.history made.fault

abbrev pub feed_answer : Stored → Answer
feed_answer stored = answer_by stored.head stored.history None

-- a sealed archive; the archives are numbered from 1
abbrev pub archive_answer : ℕ → Stored → Answer
archive_answer number stored =
    let sealed = (windows_of stored.head stored.history).sealed in
    if nat_le 1 number && nat_le number sealed
    then record { status = Done; printed = text (archive stored.head stored.history number) }
    else fault_answer (Refused (NotSealed number sealed))

-- the document of a member, by the state that it has
abbrev pub member_answer_by : ℕ → Stored → State → Answer
member_answer_by number stored Never = fault_answer (Refused (NoMember number))
member_answer_by number stored (Gone when) = fault_answer (Refused (DeletedMember number))
member_answer_by number stored (Live updated version) =
    record {
      status = Done;
      printed =
          unwrap_or (option_map (member_text stored.head.name) ((fold_of stored.history).live number)) [];
    }

abbrev pub member_answer : ℕ → Stored → Answer
member_answer number stored = member_answer_by number stored (state_of stored.history number)

-- the content of a disk opens to no store, and why
pub record IsBadStore (content : Area → List ℕ) (given : Answer) : Type 0 where
  pub fault : LoadFault
  pub is : IsLoadFault (records (content Journal)) (records (content Sealed)) fault
  pub refuses : IsRefusal (load_fault fault)
  pub answer : given ≡ fault_answer (load_fault fault)

-- the journal or the sealed area has a payload
abbrev pub HasRecords : (Area → List ℕ) → Type 0
HasRecords content = (records (content Journal) ≢ []) ⊎ (records (content Sealed) ≢ [])

-- the answer of `init`
abbrev pub IsInitAnswer : (Area → List ℕ) → Answer → Type 0
IsInitAnswer content given =
    (HasRecords content × (given ≡ fault_answer (BadStore AlreadyInit)))
    ⊎ (¬ HasRecords content × (given ≡ record { status = Done; printed = codes "ready\n" }))

-- The answer of a command on a disk that should have a store: the content opens to a store or is a bad one, and if it
-- opens, the answer is that on the store.
pub record IsAnswerOn (content : Area → List ℕ) (on : Stored → Answer) (given : Answer) : Type 0 where
  pub loaded : ((stored : Stored) × OpensTo content stored) ⊎ IsBadStore content given
  pub exact : (stored : Stored) → OpensTo content stored → given ≡ on stored
