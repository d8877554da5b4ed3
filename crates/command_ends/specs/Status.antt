-- The exit statuses.
use Rattle.std.specs.Prelude.{ℕ}
use Rattle.command_ends.specs.declared.status.Status.{Status}
use Rattle.command_ends.specs.declared.status.Status.TheVariants.{Done, Usage, Incomplete, Rejected, DiskFault, NoMemory}
use Rattle.command_ends.specs.declared.status.Status.TheVariants.{BadStore, DoorFault, FetchFault, OutputFault, InputFault}
use Rattle.command_ends.specs.declared.status.Status.TheVariants.{BadInput, Full, Refused}

-- the exit status of each way to end
abbrev pub code_of : Status → ℕ
code_of Done = 0
code_of Usage = 2
code_of Incomplete = 3
code_of Rejected = 3
code_of DiskFault = 4
code_of NoMemory = 5
code_of BadStore = 6
code_of DoorFault = 7
code_of FetchFault = 7
code_of OutputFault = 8
code_of InputFault = 9
code_of BadInput = 10
code_of Full = 11
code_of Refused = 12
