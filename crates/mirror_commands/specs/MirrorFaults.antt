-- `mirror`: why it makes no report, and the answer of each fault.
use Rattle.std.specs.Prelude.{◌≡◌, ℕ, List}
use Rattle.feed_disk.specs.declared.area.Area.{Area}
use Rattle.feed_disk.specs.declared.area.Area.TheVariants.{Mirror}
use Rattle.feed_journal.specs.Records.{records}
use Rattle.feed_journal.specs.declared.fault.LogFault.{LogFault}
use Rattle.feed_journal.specs.declared.fault.LogFault.TheVariants as log
use Rattle.mirror_walk.specs.Holding.{KeptValue}
use Rattle.mirror_walk.specs.Loaded.{IsLoadedOf, IsMirrorFault}
use Rattle.mirror_walk.specs.declared.mirror_fault.MirrorFault.{MirrorFault}
use Rattle.mirror_walk.specs.declared.mirror_fault.MirrorFault.TheVariants as load
use Rattle.mirror_walk.specs.declared.walk.WalkFault.{WalkFault}
use Rattle.mirror_walk.specs.declared.walk.WalkFault.TheVariants as walk
use Rattle.mirror_commands.specs.declared.report_fault.ReportFault.{ReportFault}
use Rattle.mirror_commands.specs.declared.report_fault.ReportFault.TheVariants.{Fetch, OtherBase, Other}
use Rattle.command_ends.specs.declared.fault.BadStore.TheVariants.{BadRecord, Changed}
use Rattle.command_ends.specs.declared.fault.Fault.{Fault}
use Rattle.command_ends.specs.declared.fault.Fault.TheVariants.{NoMemory, Disk, BadStore, Full}
use Rattle.command_ends.specs.declared.status.Status.TheVariants as ends
use Rattle.command_ends.specs.Answer.{Answer}
use Rattle.command_ends.specs.Ends.{fetch_line}
use Rattle.command_ends.specs.Fault.{IsRefusal, fault_answer, other_base_line}

-- the status of a fault, and its line
abbrev pub report_answer : ReportFault → Answer
report_answer Fetch = record { status = ends.FetchFault; printed = fetch_line }
report_answer (OtherBase base) = record { status = ends.Refused; printed = other_base_line base }
report_answer (Other fault) = fault_answer fault

-- the area or the input is refused: memory didn't run out, and no call failed
abbrev pub IsReportRefusal : ReportFault → Type 0
IsReportRefusal Fetch = ⊥
IsReportRefusal (OtherBase base) = Unit {0}
IsReportRefusal (Other fault) = IsRefusal fault

-- the fault of a mirror that isn't loaded
abbrev pub mirror_fault : MirrorFault → ReportFault
mirror_fault (load.OtherBase base) = OtherBase base
mirror_fault (load.BadRecord index at) = Other (BadStore (BadRecord Mirror index at))
mirror_fault load.DiskFault = Other Disk
mirror_fault load.NoMemory = Other NoMemory

-- the area has no room for a document
abbrev pub full_fault : ℕ → ℕ → ℕ → Fault
full_fault size needed capacity = Full Mirror size needed capacity

-- the fault of a walk
abbrev pub walk_fault : WalkFault → ReportFault
walk_fault walk.FetchFault = Fetch
walk_fault (walk.Full size needed capacity) = Other (full_fault size needed capacity)
walk_fault walk.DiskFault = Other Disk
walk_fault walk.NoMemory = Other NoMemory

-- the fault of a document that isn't read back
abbrev pub reread_fault : LogFault → Fault
reread_fault log.DiskFault = Disk
reread_fault (log.Changed index) = BadStore (Changed Mirror index)
reread_fault log.NoMemory = NoMemory

-- a mirror with this base holds these documents when it has loaded the area
abbrev pub IsHeldIn : List ℕ → (Area → List ℕ) → List KeptValue → Type 0
IsHeldIn base content kept = IsLoadedOf base (records (content Mirror)) kept

-- the area has no documents that a mirror with this base takes one after another, and why
pub record IsBadMirror (base : List ℕ) (content : Area → List ℕ) (given : Answer) : Type 0 where
  pub fault : MirrorFault
  pub is : IsMirrorFault base (records (content Mirror)) fault
  pub refuses : IsReportRefusal (mirror_fault fault)
  pub answer : given ≡ report_answer (mirror_fault fault)
