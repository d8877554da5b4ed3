-- What the first pass of a repair finds in the two areas.
use Rattle.std.specs.Prelude.{◌≡◌, ◌↔◌, IsTrue, ℕ, ◌≤◌, List, [], length, Option}
use Rattle.feed_disk.specs.Disk.{DiskState}
use Rattle.feed_disk.specs.declared.area.Area.{Area}
use Rattle.feed_disk.specs.declared.area.Area.TheVariants.{Journal, Sealed}
use Rattle.feed_journal.specs.Log.{IsSynced, LogValue}
use Rattle.feed_journal.specs.Records.{records, IsWhole, StartsWith}
use Rattle.feed_recovery.specs.Faults.{IsBadRecord}
use Rattle.feed_recovery.specs.Loading.{AreCompared, IsReadable}
use Rattle.feed_recovery.specs.Opening.{IsJournal}
use Rattle.feed_recovery.specs.declared.fault.LoadFault.{LoadFault}
use Rattle.feed_recovery.specs.declared.fault.LoadFault.TheVariants.{NotInit as LoadNotInit, BadRecord as LoadBadRecord}
use Rattle.feed_recovery.specs.declared.fault.LoadFault.TheVariants.{SealCount as LoadSealCount, BadSeal as LoadBadSeal}
use Rattle.feed_recovery.specs.declared.fault.LoadFault.TheVariants.{DiskFault as LoadDiskFault, NoMemory as LoadNoMemory}
use Rattle.member_rules.specs.Head.{HeadValue}
use Rattle.member_rules.specs.Windows.{windows_of}
use Rattle.member_rules.specs.declared.operation.Op.{Op}
use Rattle.store_scrub.specs.Repair.{IsKeptCount}
use Rattle.store_scrub.specs.declared.fault.RepairFault.{RepairFault}
use Rattle.store_scrub.specs.declared.fault.RepairFault.TheVariants.{NotInit, BadRecord, Full, DiskFault, NoMemory}

-- both areas were synced, and have the content that they had
pub record HasSynced (before after : DiskState) : Type 0 where
  pub journal : IsSynced after Journal
  pub sealed : IsSynced after Sealed
  pub journal_content : after.content Journal ≡ before.content Journal
  pub sealed_content : after.content Sealed ≡ before.content Sealed

-- the fault of a replay of the journal, which a repair has too
abbrev pub repair_fault_of : LoadFault → RepairFault
repair_fault_of LoadNotInit = NotInit
repair_fault_of (LoadBadRecord area index at) = BadRecord area index at
repair_fault_of (LoadSealCount operations seals) = NoMemory
repair_fault_of (LoadBadSeal index) = NoMemory
repair_fault_of LoadDiskFault = DiskFault
repair_fault_of LoadNoMemory = NoMemory

-- the fault has its cause in the payloads of the journal; a failed call and out of memory have none there
abbrev pub IsSurveyFault : List (List ℕ) → RepairFault → Type 0
IsSurveyFault journal NotInit = journal ≡ []
IsSurveyFault journal (BadRecord area index at) = (area ≡ Journal) × IsBadRecord journal index at
IsSurveyFault journal (Full size needed capacity) = ⊥
IsSurveyFault journal DiskFault = Unit {0}
IsSurveyFault journal NoMemory = Unit {0}

-- the content begins with the frames of its payloads, and the log tells whether it is whole
pub record KnowsFrames (log : LogValue) (content : List ℕ) : Type 0 where
  pub starts : StartsWith (records content) content
  pub whole : IsTrue log.whole ↔ IsWhole content

-- the log of this area, of which no call failed, after all frames were read
pub record IsSurveyed (observable : Type 0) (disk : DiskState) (area : Area) (log : LogValue) : Type 0 where
  pub readable : IsReadable observable disk area log
  pub frames : observable → KnowsFrames log (disk.content area)

-- the number of a seal that was found, counted from 1
abbrev pub IsFoundSeal : ℕ → ℕ → Type 0
IsFoundSeal found index = (1 ≤ index) × (index ≤ found)

-- of this number of seals, those that a repair keeps
abbrev pub CountsKept : HeadValue → List Op → Option ℕ → ℕ → ℕ → Type 0
CountsKept head history wrong found kept =
    (sealed : List (List ℕ)) → length sealed ≡ found → AreCompared head history sealed wrong
    → IsKeptCount head history sealed kept

-- The journal is a history's. Of the sealed area the first `kept` seals are kept, and the history has `sealed` sealed windows.
pub record HasSurvey (disk : DiskState) (kept sealed : ℕ) : Type 0 where
  pub head : HeadValue
  pub history : List Op
  pub is_journal : IsJournal (records (disk.content Journal)) head history
  pub is_kept : IsKeptCount head history (records (disk.content Sealed)) kept
  pub sealed_is : sealed ≡ (windows_of head history).sealed
