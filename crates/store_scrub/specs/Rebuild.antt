-- What a repair does after its first pass.
use Rattle.std.specs.Prelude.{◌≡◌, ℕ, List, take}
use Rattle.feed_disk.specs.Disk.{DiskState}
use Rattle.feed_disk.specs.Moments.{AlwaysLeaves, NowOnly}
use Rattle.feed_disk.specs.declared.area.Area.{Area}
use Rattle.feed_disk.specs.declared.area.Area.TheVariants.{Journal, Sealed}
use Rattle.feed_journal.specs.Log.{IsSynced}
use Rattle.feed_journal.specs.Records.{records, Begins, HasFirst, IsWhole}
use Rattle.feed_recovery.specs.Opening.{IsJournal, journal_of}
use Rattle.member_rules.specs.Head.{HeadValue}
use Rattle.member_rules.specs.Windows.{windows_of}
use Rattle.member_rules.specs.declared.operation.Op.{Op}
use Rattle.store_scrub.specs.Making.{HasNoRoom, all_seals}
use Rattle.store_scrub.specs.Repair.{Fit, IsKeptCount, LeavesFirst}
use Rattle.store_scrub.specs.declared.fault.RepairFault.{RepairFault}
use Rattle.store_scrub.specs.declared.fault.RepairFault.TheVariants.{NotInit, BadRecord, Full, DiskFault, NoMemory}

-- both areas are synced, the journal is a history's, and this number of its seals is kept
pub record IsReady (disk : DiskState) (head : HeadValue) (history : List Op) (kept : ℕ) : Type 0 where
  pub journal_synced : IsSynced disk Journal
  pub sealed_synced : IsSynced disk Sealed
  pub is_journal : IsJournal (records (disk.content Journal)) head history
  pub is_kept : IsKeptCount head history (records (disk.content Sealed)) kept

-- if the area was synced, each image of it is whole and has the payloads that it had
abbrev pub ClosesArea : DiskState → DiskState → Area → Type 0
ClosesArea before after area =
    IsSynced before area → NowOnly after area (λ i. IsWhole i × (records i ≡ records (before.content area)))

-- if the area was synced, each image from then on has the payloads that it had
abbrev pub KeepsArea : DiskState → DiskState → Area → Type 0
KeepsArea before after area =
    IsSynced before area → AlwaysLeaves before after area (λ i. records i ≡ records (before.content area))

-- The area has only its first payloads. If it was synced, each image of it begins with their frames and a closed gate.
pub record CutsArea (before after : DiskState) (area : Area) (kept : ℕ) : Type 0 where
  pub payloads : records (after.content area) ≡ take kept (records (before.content area))
  pub rests : IsSynced before area → NowOnly after area (Begins (take kept (records (before.content area))))

-- if the area was synced, each image from then on has these payloads first
abbrev pub KeepsFirstOf : DiskState → DiskState → Area → ℕ → Type 0
KeepsFirstOf before after area kept =
    IsSynced before area → AlwaysLeaves before after area (HasFirst (take kept (records (before.content area))))

-- the seals that are kept, and those that were missing
pub record IsRebuilt (after : DiskState) (head : HeadValue) (history : List Op) (kept : ℕ) : Type 0 where
  pub seals : records (after.content Sealed) ≡ all_seals head history kept
  pub fit : Fit head history kept (windows_of head history).sealed
  pub journal_rests : NowOnly after Journal (λ i. IsWhole i × (records i ≡ journal_of head history))
  pub sealed_rests : NowOnly after Sealed (Begins (all_seals head history kept))

abbrev pub Rebuilds : DiskState → DiskState → ℕ → Type 0
Rebuilds before after kept =
    (head : HeadValue) (history : List Op) → IsReady before head history kept → IsRebuilt after head history kept

-- why the seals aren't all made
abbrev pub IsRebuildFault : DiskState → HeadValue → List Op → ℕ → RepairFault → Type 0
IsRebuildFault after head history kept NotInit = ⊥
IsRebuildFault after head history kept (BadRecord area index at) = ⊥
IsRebuildFault after head history kept (Full size needed capacity) =
    HasNoRoom after head history kept size needed capacity
IsRebuildFault after head history kept DiskFault = Unit {0}
IsRebuildFault after head history kept NoMemory = Unit {0}

abbrev pub StopsBy : DiskState → DiskState → ℕ → RepairFault → Type 0
StopsBy before after kept fault =
    (head : HeadValue) (history : List Op) → IsReady before head history kept
    → IsRebuildFault after head history kept fault

abbrev pub RebuildsSafely : DiskState → DiskState → ℕ → Type 0
RebuildsSafely before after kept =
    (head : HeadValue) (history : List Op) → IsReady before head history kept
    → LeavesFirst before after head history kept
