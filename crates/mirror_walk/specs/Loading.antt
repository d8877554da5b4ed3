-- The steps of a load, of which none writes.
use Rattle.std.specs.Prelude.{◌≡◌, ◌≢◌, ◌≤◌, ℕ, List, Ok, false}
use Rattle.atom_values.specs.Counts.{HasRisen}
use Rattle.feed_disk.specs.Disk.{DiskState}
use Rattle.feed_disk.specs.Moments.{LeavesAlone}
use Rattle.feed_disk.specs.declared.area.Area.{Area}
use Rattle.feed_disk.specs.declared.area.Area.TheVariants.{Mirror}
use Rattle.feed_journal.specs.Log.{IsListed, IsLog, LogValue}
use Rattle.feed_journal.specs.Records.{records}
use Rattle.feed_journal.specs.declared.fault.LogFault.{LogFault}
use Rattle.feed_journal.specs.declared.fault.LogFault.TheVariants.{Changed}
use Rattle.feed_journal.specs.declared.fault.LogFault.TheVariants.{DiskFault as LogDiskFault}
use Rattle.feed_journal.specs.declared.fault.LogFault.TheVariants.{NoMemory as LogNoMemory}
use Rattle.mirror_walk.specs.declared.mirror_fault.MirrorFault.{MirrorFault}
use Rattle.mirror_walk.specs.declared.mirror_fault.MirrorFault.TheVariants.{OtherBase, BadRecord, DiskFault}
use Rattle.mirror_walk.specs.declared.mirror_fault.MirrorFault.TheVariants.{NoMemory}
use Rattle.mirror_walk.specs.declared.answer.Accepted.TheVariants.{Taken}
use Rattle.mirror_walk.specs.Accept.{accept, own_text}
use Rattle.mirror_walk.specs.Holding.{KeptValue}
use Rattle.mirror_walk.specs.Loaded.{IsMirrorFault}

-- the log of the mirror's area, of which no call failed; its list is the payloads of the content
pub record IsReadable (observable : Type 0) (disk : DiskState) (log : LogValue) : Type 0 where
  pub area : log.area ≡ Mirror
  pub unspent : log.spent ≡ false
  pub rules : IsLog log
  pub listed : observable → IsListed log (disk.content Mirror)

-- each area is left alone
pub record OnlyReads (s t : DiskState) : Type 0 where
  pub areas : (a : Area) → LeavesAlone s t a
  pub later : s.faults ≤ t.faults

-- device calls through this log worked, and the log is as it was but for their number
pub record Worked (s t : DiskState) (before after : LogValue) : Type 0 where
  pub log : after ≡ record before { calls = after.calls }
  pub faults : t.faults ≡ s.faults

-- a device call that failed raised the count of faults, and all other faults left it
abbrev pub HasRaised : ℕ → ℕ → MirrorFault → Type 0
HasRaised before after DiskFault = HasRisen before after
HasRaised before after (OtherBase other) = after ≡ before
HasRaised before after (BadRecord index at) = after ≡ before
HasRaised before after NoMemory = after ≡ before

-- a step fails by this fault, which has its cause in the payloads of the area or in its device calls
pub record FailsBy (observable : Type 0) (base : List ℕ) (s t : DiskState) (fault : MirrorFault) : Type 0 where
  pub cause : observable → IsMirrorFault base (records (s.content Mirror)) fault
  pub faults : HasRaised s.faults t.faults fault

-- the fault of the log; a payload that is shorter than it was is bad at its start
abbrev pub fault_of : LogFault → MirrorFault
fault_of LogDiskFault = DiskFault
fault_of (Changed index) = BadRecord index 0
fault_of LogNoMemory = NoMemory

-- The mirror takes the document under its own address, after those that it holds.
abbrev pub IsNext : List ℕ → List KeptValue → KeptValue → Type 0
IsNext base kept given = accept base kept (own_text given.document) given ≡ Ok Taken

-- the document of the payload of this index and length isn't taken: it is the first and has another base, or
-- it is a later one
abbrev pub IsUnfit : List ℕ → List KeptValue → ℕ → KeptValue → ℕ → MirrorFault → Type 0
IsUnfit base kept index given size (OtherBase other) =
    (index ≡ 0) × (given.document.name.base ≡ other) × (other ≢ base)
IsUnfit base kept index given size (BadRecord number at) =
    (number ≡ index) × (at ≡ size) × (1 ≤ index) × (¬ IsNext base kept given)
IsUnfit base kept index given size NoMemory = Unit {0}
IsUnfit base kept index given size DiskFault = ⊥
