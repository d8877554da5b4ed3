-- The faults of a store's calls, as faults of the command.
use Rattle.std.specs.Prelude.{ℕ}
use Rattle.feed_disk.specs.declared.area.Area.TheVariants.{Journal, Sealed}
use Rattle.feed_recovery.specs.declared.fault.ArchiveFault.{ArchiveFault}
use Rattle.feed_recovery.specs.declared.fault.ArchiveFault.TheVariants as archive
use Rattle.feed_recovery.specs.declared.fault.InitFault.{InitFault}
use Rattle.feed_recovery.specs.declared.fault.InitFault.TheVariants as init
use Rattle.feed_recovery.specs.declared.fault.LoadFault.{LoadFault}
use Rattle.feed_recovery.specs.declared.fault.LoadFault.TheVariants as load
use Rattle.feed_recovery.specs.declared.fault.MemberFault.{MemberFault}
use Rattle.feed_recovery.specs.declared.fault.MemberFault.TheVariants as member
use Rattle.feed_recovery.specs.declared.fault.PrepareFault.{PrepareFault}
use Rattle.feed_recovery.specs.declared.fault.PrepareFault.TheVariants as prepare
use Rattle.command_ends.specs.declared.fault.BadStore.TheVariants.{NotInit, AlreadyInit, BadRecord, SealCount, BadSeal, Changed}
use Rattle.command_ends.specs.declared.fault.Fault.{Fault}
use Rattle.command_ends.specs.declared.fault.Fault.TheVariants.{NoMemory, Disk, BadStore, Full, Refused}
use Rattle.command_ends.specs.declared.fault.Refusal.TheVariants.{NotSealed, NoMember, DeletedMember}
use Rattle.command_ends.specs.Fault.{rule_fault}

abbrev pub init_fault : InitFault → Fault
init_fault init.AlreadyInit = BadStore AlreadyInit
init_fault init.DiskFault = Disk
init_fault init.NoMemory = NoMemory

abbrev pub load_fault : LoadFault → Fault
load_fault load.NotInit = BadStore NotInit
load_fault (load.BadRecord area index at) = BadStore (BadRecord area index at)
load_fault (load.SealCount records seals) = BadStore (SealCount records seals)
load_fault (load.BadSeal index) = BadStore (BadSeal index)
load_fault load.DiskFault = Disk
load_fault load.NoMemory = NoMemory

-- the fault of a line whose request isn't prepared
abbrev pub prepare_fault : ℕ → PrepareFault → Fault
prepare_fault line (prepare.Rule fault) = rule_fault line fault
prepare_fault line (prepare.Full area size needed capacity) = Full area size needed capacity
prepare_fault line prepare.NoMemory = NoMemory

abbrev pub archive_fault : ArchiveFault → Fault
archive_fault (archive.NotSealed number sealed) = Refused (NotSealed number sealed)
archive_fault archive.DiskFault = Disk
archive_fault (archive.Changed index) = BadStore (Changed Sealed index)
archive_fault archive.NoMemory = NoMemory

abbrev pub member_fault : MemberFault → Fault
member_fault (member.NotFound number) = Refused (NoMember number)
member_fault (member.Deleted number when) = Refused (DeletedMember number)
member_fault member.DiskFault = Disk
member_fault (member.Changed index) = BadStore (Changed Journal index)
member_fault member.NoMemory = NoMemory
