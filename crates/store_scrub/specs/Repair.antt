-- What a repair keeps and makes of the sealed area, why it stops, and what a crash within it leaves.
use Rattle.std.specs.Prelude.{◌≡◌, ℕ, ◌+◌, ◌-◌, ◌<◌, ◌≤◌, List, [], length, take}
use Rattle.feed_disk.specs.Disk.{DiskState}
use Rattle.feed_disk.specs.Moments.{AlwaysLeaves, NowOnly}
use Rattle.feed_disk.specs.declared.area.Area.TheVariants.{Journal, Sealed}
use Rattle.feed_journal.specs.Limits.{header_length}
use Rattle.feed_journal.specs.Records.{records, size_of, HasFirst}
use Rattle.feed_recovery.specs.Faults.{IsBadRecord}
use Rattle.feed_recovery.specs.Opening.{AreSeals, IsJournal, journal_of, seal_of}
use Rattle.feed_recovery.specs.Settled.{Settled}
use Rattle.feed_recovery.specs.Stored.{seals_of}
use Rattle.member_rules.specs.Head.{HeadValue, IsHead}
use Rattle.member_rules.specs.History.{IsLawful}
use Rattle.member_rules.specs.Windows.{windows_of}
use Rattle.member_rules.specs.declared.operation.Op.{Op}
use Rattle.store_scrub.specs.declared.fault.RepairFault.{RepairFault}
use Rattle.store_scrub.specs.declared.fault.RepairFault.TheVariants.{NotInit, BadRecord, Full, DiskFault, NoMemory}

-- how many seals a repair keeps: the greatest number of first seals that are the texts of their archives
pub record IsKeptCount (head : HeadValue) (history : List Op) (sealed : List (List ℕ)) (kept : ℕ) : Type 0 where
  pub archived : kept ≤ (windows_of head history).full
  pub there : kept ≤ length sealed
  pub right : AreSeals head history (take kept sealed)
  pub greatest : (number : ℕ) → number ≤ (windows_of head history).full → number ≤ length sealed
      → AreSeals head history (take number sealed) → number ≤ kept

-- the seals that are appended after these fit into the sealed area, up to this number
abbrev pub Fit : HeadValue → List Op → ℕ → ℕ → Type 0
Fit head history kept most =
    (number : ℕ) → kept < number → number ≤ most → size_of (seals_of head history number) ≤ head.capacity

-- The journal is a history's. Of the sealed area this number of seals is kept, and as many are made as are then missing.
pub record IsRepaired (journal sealed : List (List ℕ)) (kept made : ℕ) : Type 0 where
  pub head : HeadValue
  pub history : List Op
  pub is_journal : IsJournal journal head history
  pub is_kept : IsKeptCount head history sealed kept
  pub is_made : made ≡ (windows_of head history).sealed - kept
  pub fit : Fit head history kept (windows_of head history).sealed

-- The journal is a history's. After `number` seals, those that are kept and those that are made, the next one has no room.
pub record IsTooLong (journal sealed : List (List ℕ)) (number size needed capacity : ℕ) : Type 0 where
  pub head : HeadValue
  pub history : List Op
  pub is_journal : IsJournal journal head history
  pub kept : ℕ
  pub is_kept : IsKeptCount head history sealed kept
  pub from : kept ≤ number
  pub missing : number < (windows_of head history).sealed
  pub fit : Fit head history kept number
  pub size_is : size ≡ size_of (seals_of head history number)
  pub needed_is : needed ≡ length (seal_of head history (number + 1)) + header_length
  pub capacity_is : capacity ≡ head.capacity
  pub past : capacity < size + needed

-- the fault has its cause in the payloads of the two areas; a failed call and out of memory have none there
abbrev pub IsRepairFault : List (List ℕ) → List (List ℕ) → RepairFault → Type 0
IsRepairFault journal sealed NotInit = journal ≡ []
IsRepairFault journal sealed (BadRecord area index at) = (area ≡ Journal) × IsBadRecord journal index at
IsRepairFault journal sealed (Full size needed capacity) =
    (number : ℕ) × IsTooLong journal sealed number size needed capacity
IsRepairFault journal sealed DiskFault = Unit {0}
IsRepairFault journal sealed NoMemory = Unit {0}

-- A seal had no room. The sealed area has the seals before it.
pub record StopsFull (journal sealed left : List (List ℕ)) (size needed capacity : ℕ) : Type 0 where
  pub number : ℕ
  pub cause : IsTooLong journal sealed number size needed capacity
  pub stays : left ≡ seals_of cause.head cause.history number

-- Nothing was written: of both areas a crash leaves what it could leave before.
pub record LeavesUnwritten (before after : DiskState) : Type 0 where
  pub journal : AlwaysLeaves before after Journal (before.image_now Journal)
  pub sealed : AlwaysLeaves before after Sealed (before.image_now Sealed)
  pub journal_content : after.content Journal ≡ before.content Journal
  pub sealed_content : after.content Sealed ≡ before.content Sealed

-- each image of the journal has the payloads of this history, and each image of the sealed area its first seals
pub record HasLeft (disk : DiskState) (head : HeadValue) (history : List Op) (kept : ℕ) : Type 0 where
  pub is_head : IsHead head
  pub lawful : IsLawful head history
  pub archived : kept ≤ (windows_of head history).full
  pub journal : NowOnly disk Journal (λ image. records image ≡ journal_of head history)
  pub sealed : NowOnly disk Sealed (HasFirst (seals_of head history kept))

-- At each moment of a repair, and after it, a crash leaves the journal's payloads and the first seals. So a repair after
-- the crash ends with the same history.
pub record LeavesFirst (before after : DiskState) (head : HeadValue) (history : List Op) (kept : ℕ) : Type 0 where
  pub journal : AlwaysLeaves before after Journal (λ image. records image ≡ journal_of head history)
  pub sealed : AlwaysLeaves before after Sealed (HasFirst (seals_of head history kept))

abbrev pub RepairsSafely : DiskState → DiskState → Type 0
RepairsSafely before after =
    (head : HeadValue) (history : List Op) (kept : ℕ) → HasLeft before head history kept
    → LeavesFirst before after head history kept

-- After a repair each image of both areas is whole, and they open to the journal's whole history.
abbrev pub SettlesStore : DiskState → DiskState → Type 0
SettlesStore before after =
    (head : HeadValue) (history : List Op) → IsJournal (records (before.content Journal)) head history
    → Settled after head history (length history)

-- two areas have one end of a repair: its numbers, or the numbers of the seal that has no room
pub record HaveOneEnd (journal sealed : List (List ℕ)) : Type 0 where
  pub repaired : (kept made count number : ℕ) → IsRepaired journal sealed kept made
      → IsRepaired journal sealed count number → (kept ≡ count) × (made ≡ number)
  pub full : (one other size needed capacity : ℕ) (size' needed' capacity' : ℕ)
      → IsTooLong journal sealed one size needed capacity → IsTooLong journal sealed other size' needed' capacity'
      → (size ≡ size') × (needed ≡ needed') × (capacity ≡ capacity')
  pub apart : (kept made number size needed capacity : ℕ) → IsRepaired journal sealed kept made
      → IsTooLong journal sealed number size needed capacity → ⊥

abbrev pub RepairsEndInOneWay : Type 0
RepairsEndInOneWay = (journal sealed : List (List ℕ)) → HaveOneEnd journal sealed
