-- The answers of `scrub` and of `scrub --repair`, by the content of the disk, and what a repair leaves.
use Rattle.std.specs.Prelude.{◌≡◌, ◌⊎◌, ℕ, List, ◌++◌, codes, decimal, Result, Err}
use Rattle.command_ends.specs.Answer.{Answer}
use Rattle.command_ends.specs.Fault.{fault_answer, spaced, IsRefusal}
use Rattle.command_ends.specs.declared.fault.BadStore.TheVariants as bad
use Rattle.command_ends.specs.declared.fault.Fault.{Fault}
use Rattle.command_ends.specs.declared.fault.Fault.TheVariants.{NoMemory, Disk, BadStore, Full}
use Rattle.command_ends.specs.declared.status.Status.{Status}
use Rattle.command_ends.specs.declared.status.Status.TheVariants as status
use Rattle.feed_disk.specs.Disk.{DiskState}
use Rattle.feed_disk.specs.declared.area.Area.{Area}
use Rattle.feed_disk.specs.declared.area.Area.TheVariants.{Journal, Sealed}
use Rattle.feed_journal.specs.Records.{records}
use Rattle.store_scrub.specs.Repair.{IsRepairFault, IsRepaired, IsTooLong, LeavesUnwritten, RepairsSafely, SettlesStore}
use Rattle.store_scrub.specs.Repair.{StopsFull}
use Rattle.store_scrub.specs.Scrub.{IsSound, IsUnsound}
use Rattle.store_scrub.specs.declared.fault.RepairFault.{RepairFault}
use Rattle.store_scrub.specs.declared.fault.RepairFault.TheVariants as repairs
use Rattle.store_scrub.specs.declared.fault.Unsound.{Unsound}
use Rattle.store_scrub.specs.declared.fault.Unsound.TheVariants as unsound

abbrev pub unsound_fault : Unsound → Fault
unsound_fault unsound.NotInit = BadStore bad.NotInit
unsound_fault (unsound.BadRecord area index at) = BadStore (bad.BadRecord area index at)
unsound_fault (unsound.SealCount records seals) = BadStore (bad.SealCount records seals)
unsound_fault (unsound.BadSeal index) = BadStore (bad.BadSeal index)
unsound_fault (unsound.OpenGate area at) = BadStore (bad.OpenGate area at)
unsound_fault unsound.DiskFault = Disk
unsound_fault unsound.NoMemory = NoMemory

abbrev pub repair_fault : RepairFault → Fault
repair_fault repairs.NotInit = BadStore bad.NotInit
repair_fault (repairs.BadRecord area index at) = BadStore (bad.BadRecord area index at)
repair_fault (repairs.Full size needed capacity) = Full Sealed size needed capacity
repair_fault repairs.DiskFault = Disk
repair_fault repairs.NoMemory = NoMemory

-- the line of a word and two numbers, with which the command comes to its defined end
abbrev pub done_answer : List ℕ → ℕ → ℕ → Answer
done_answer word first second =
    record { status = status.Done; printed = word ++ (decimal first ++ spaced second ++ codes "\n") }

-- `scrub`

-- the store is sound, and these are the numbers of its operations and its seals
pub record IsSoundAnswer (content : Area → List ℕ) (given : Answer) : Type 0 where
  pub operations : ℕ
  pub seals : ℕ
  pub sound : IsSound (content Journal) (content Sealed) operations seals
  pub is : given ≡ done_answer (codes "sound ") operations seals

-- the store isn't sound
pub record IsUnsoundAnswer (content : Area → List ℕ) (given : Answer) : Type 0 where
  pub fault : Unsound
  pub cause : IsUnsound (content Journal) (content Sealed) fault
  pub refuses : IsRefusal (unsound_fault fault)
  pub is : given ≡ fault_answer (unsound_fault fault)

abbrev pub IsScrubAnswer : (Area → List ℕ) → Answer → Type 0
IsScrubAnswer content given = IsSoundAnswer content given ⊎ IsUnsoundAnswer content given

-- the answer, which is that of a sound store if the store is sound
pub record IsScrubbed (content : Area → List ℕ) (given : Answer) : Type 0 where
  pub is : IsScrubAnswer content given
  pub due : (other : Answer) → IsSoundAnswer content other → other ≡ given

-- the faults by which `scrub` may end
abbrev pub MayEndScrub : Fault → Type 0
MayEndScrub NoMemory = Unit {0}
MayEndScrub Disk = Unit {0}
MayEndScrub (BadStore fault) = Unit {0}
MayEndScrub _ = ⊥

-- `scrub --repair`

-- the archives were brought back
pub record IsRepairedAnswer (content : Area → List ℕ) (given : Answer) : Type 0 where
  pub kept : ℕ
  pub made : ℕ
  pub repaired : IsRepaired (records (content Journal)) (records (content Sealed)) kept made
  pub is : given ≡ done_answer (codes "repaired ") kept made

-- the sealed area has no room for the next seal
pub record IsFullAnswer (content : Area → List ℕ) (given : Answer) : Type 0 where
  pub number : ℕ
  pub size : ℕ
  pub needed : ℕ
  pub capacity : ℕ
  pub full : IsTooLong (records (content Journal)) (records (content Sealed)) number size needed capacity
  pub is : given ≡ fault_answer (Full Sealed size needed capacity)

-- the end of a repair of a journal that is a history's
abbrev pub IsRepairEnd : (Area → List ℕ) → Answer → Type 0
IsRepairEnd content given = IsRepairedAnswer content given ⊎ IsFullAnswer content given

-- the repair is refused, or ends so
pub record IsRefusedRepair (content : Area → List ℕ) (given : Answer) : Type 0 where
  pub fault : RepairFault
  pub cause : IsRepairFault (records (content Journal)) (records (content Sealed)) fault
  pub refuses : IsRefusal (repair_fault fault)
  pub is : given ≡ fault_answer (repair_fault fault)

abbrev pub IsRepairAnswer : (Area → List ℕ) → Answer → Type 0
IsRepairAnswer content given = IsRepairEnd content given ⊎ IsRefusedRepair content given

-- the answer, which is the end of a repair if the journal is a history's
pub record IsRepairedBy (content : Area → List ℕ) (given : Answer) : Type 0 where
  pub is : IsRepairAnswer content given
  pub due : (other : Answer) → IsRepairEnd content other → other ≡ given

-- the faults by which `scrub --repair` may end
abbrev pub MayEndRepair : Fault → Type 0
MayEndRepair NoMemory = Unit {0}
MayEndRepair Disk = Unit {0}
MayEndRepair (BadStore fault) = Unit {0}
MayEndRepair (Full Sealed size needed capacity) = Unit {0}
MayEndRepair _ = ⊥

-- a command ended by a fault of this status
abbrev pub EndsWithStatus : {A : Type 0} → Result A Fault → Status → Type 0
EndsWithStatus result ended = (fault : Fault) × (result ≡ Err fault) × ((fault_answer fault).status ≡ ended)

-- the sealed area had no room for a seal, and has those before it
pub record StopsAtFull (before after : DiskState) : Type 0 where
  pub size : ℕ
  pub needed : ℕ
  pub capacity : ℕ
  pub stops : StopsFull (records (before.content Journal)) (records (before.content Sealed))
      (records (after.content Sealed)) size needed capacity

-- What a repair leaves: at each moment the journal's payloads and the first seals that were right, and after its end a
-- store that is whole. If the journal isn't a history's, both areas are left as they were.
pub record EndsRepairing (before after : DiskState) (done full refused : Type 0) : Type 0 where
  pub safe : RepairsSafely before after
  pub settles : done → SettlesStore before after
  pub stops : full → StopsAtFull before after
  pub unwritten : refused → LeavesUnwritten before after

-- Laws

abbrev pub SoundStoresHaveOneAnswer : Type 0
SoundStoresHaveOneAnswer = (content : Area → List ℕ) (one other : Answer) → IsSoundAnswer content one
    → IsSoundAnswer content other → one ≡ other

abbrev pub RepairsHaveOneEnd : Type 0
RepairsHaveOneEnd = (content : Area → List ℕ) (one other : Answer) → IsRepairEnd content one
    → IsRepairEnd content other → one ≡ other
