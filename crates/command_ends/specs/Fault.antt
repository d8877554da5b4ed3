-- Faults, and the answer of each: its status and its line.
use Rattle.std.specs.Prelude.{ℕ, List, ◌++◌, codes, decimal, Result, Ok, Err}
use Rattle.doc_source.specs.declared.fault.PileFault.{PileFault}
use Rattle.doc_source.specs.declared.fault.PileFault.TheVariants as piles
use Rattle.feed_disk.specs.declared.area.Area.{Area}
use Rattle.feed_disk.specs.declared.area.Area.TheVariants.{Journal, Sealed, Mirror}
use Rattle.member_rules.specs.declared.fault.RuleFault.{RuleFault}
use Rattle.member_rules.specs.declared.fault.RuleFault.TheVariants as rules
use Rattle.command_ends.specs.declared.status.Status.TheVariants as status
use Rattle.command_ends.specs.declared.fault.Fault.{Fault}
use Rattle.command_ends.specs.declared.fault.Fault.TheVariants.{NoMemory, Input, Disk, BadStore as StoreIsBad, Full, Refused}
use Rattle.command_ends.specs.declared.fault.BadStore.{BadStore}
use Rattle.command_ends.specs.declared.fault.BadStore.TheVariants.{NotInit, AlreadyInit, BadRecord, SealCount, BadSeal, Changed, OpenGate}
use Rattle.command_ends.specs.declared.fault.Refusal.{Refusal}
use Rattle.command_ends.specs.declared.fault.Refusal.TheVariants.{TooLong, BadDocument, BadPile, BadCertificate, TooManyOffers}
use Rattle.command_ends.specs.declared.fault.Refusal.TheVariants.{BadLine, NotFound, Deleted, Clock, TooLarge, NotSealed, NoMember}
use Rattle.command_ends.specs.declared.fault.Refusal.TheVariants.{DeletedMember, BadService}
use Rattle.command_ends.specs.Answer.{Answer}

-- a number between two words
abbrev pub numbered : List ℕ → ℕ → List ℕ → List ℕ
numbered front number back = front ++ decimal number ++ back

-- the line of a refusal that names a member
abbrev pub member_line : ℕ → List ℕ → ℕ → List ℕ
member_line line why member = numbered (codes "line ") line why ++ decimal member ++ codes "\n"

-- a number after other words
abbrev pub spaced : ℕ → List ℕ
spaced number = codes " " ++ decimal number

-- the line of a connection that was served: the status of its reply, and the version of the feed
abbrev pub connection_line : ℕ → ℕ → List ℕ
connection_line status version = decimal status ++ spaced version ++ codes "\n"

-- the line of a mirror whose documents have this base, which isn't that of the words
abbrev pub other_base_line : List ℕ → List ℕ
other_base_line base = codes "other base " ++ base ++ codes "\n"

abbrev pub area_word : Area → List ℕ
area_word Journal = codes "journal"
area_word Sealed = codes "sealed"
area_word Mirror = codes "mirror"

-- the line of a disk that has no store that opens, or has one already
abbrev pub bad_store_line : BadStore → List ℕ
bad_store_line NotInit = codes "not init\n"
bad_store_line AlreadyInit = codes "already init\n"
bad_store_line (BadRecord area index at) =
    codes "bad store " ++ area_word area ++ spaced index ++ spaced at ++ codes "\n"
bad_store_line (SealCount records seals) = codes "seal count" ++ spaced records ++ spaced seals ++ codes "\n"
bad_store_line (BadSeal index) = codes "bad seal" ++ spaced index ++ codes "\n"
bad_store_line (Changed area index) = codes "changed " ++ area_word area ++ spaced index ++ codes "\n"
bad_store_line (OpenGate area at) = codes "open gate " ++ area_word area ++ spaced at ++ codes "\n"

abbrev pub full_line : Area → ℕ → ℕ → ℕ → List ℕ
full_line area size needed capacity =
    codes "full " ++ area_word area ++ spaced size ++ spaced needed ++ spaced capacity ++ codes "\n"

-- the status of a refusal, and its line
abbrev pub refusal_answer : Refusal → Answer
refusal_answer TooLong = record { status = status.BadInput; printed = codes "input too long\n" }
refusal_answer (BadDocument offset) =
    record { status = status.BadInput; printed = numbered (codes "bad document ") offset (codes "\n") }
refusal_answer (BadPile at) =
    record { status = status.BadInput; printed = numbered (codes "bad pile ") at (codes "\n") }
refusal_answer (BadCertificate line) =
    record { status = status.BadInput; printed = numbered (codes "bad certificate ") line (codes "\n") }
refusal_answer TooManyOffers = record { status = status.BadInput; printed = codes "too many offers\n" }
refusal_answer (BadService at) =
    record { status = status.BadInput; printed = numbered (codes "bad service ") at (codes "\n") }
refusal_answer (BadLine line) =
    record { status = status.BadInput; printed = numbered (codes "bad line ") line (codes "\n") }
refusal_answer (NotFound line member) =
    record { status = status.Refused; printed = member_line line (codes " not found ") member }
refusal_answer (Deleted line member) =
    record { status = status.Refused; printed = member_line line (codes " deleted ") member }
refusal_answer (Clock line) =
    record { status = status.Refused; printed = numbered (codes "line ") line (codes " clock\n") }
refusal_answer (TooLarge line) =
    record { status = status.Refused; printed = numbered (codes "line ") line (codes " too large\n") }
refusal_answer (NotSealed number sealed) = record {
  status = status.Refused;
  printed = codes "archive" ++ spaced number ++ codes " not sealed" ++ spaced sealed ++ codes "\n";
}
refusal_answer (NoMember number) =
    record { status = status.Refused; printed = numbered (codes "member ") number (codes " not found\n") }
refusal_answer (DeletedMember number) =
    record { status = status.Refused; printed = numbered (codes "member ") number (codes " deleted\n") }

-- the status of a fault, and its line
abbrev pub fault_answer : Fault → Answer
fault_answer NoMemory = record { status = status.NoMemory; printed = codes "no memory\n" }
fault_answer Input = record { status = status.InputFault; printed = codes "input fault\n" }
fault_answer Disk = record { status = status.DiskFault; printed = codes "disk fault\n" }
fault_answer (StoreIsBad bad) = record { status = status.BadStore; printed = bad_store_line bad }
fault_answer (Full area size needed capacity) =
    record { status = status.Full; printed = full_line area size needed capacity }
fault_answer (Refused refusal) = refusal_answer refusal

-- the input or the store is refused: memory didn't run out, and no call failed
abbrev pub IsRefusal : Fault → Type 0
IsRefusal NoMemory = ⊥
IsRefusal Input = ⊥
IsRefusal Disk = ⊥
IsRefusal _ = Unit {0}

-- the fault of a line that the rules refuse. No line makes a draft with an identifier, and no rule answers `NoMemory`
abbrev pub rule_fault : ℕ → RuleFault → Fault
rule_fault line (rules.NotFound member) = Refused (NotFound line member)
rule_fault line (rules.Deleted member when) = Refused (Deleted line member)
rule_fault line (rules.OtherId member given) = Refused (BadLine line)
rule_fault line (rules.ClockSpent last now) = Refused (Clock line)
rule_fault line (rules.TooLarge size) = Refused (TooLarge line)
rule_fault line rules.NoMemory = NoMemory

-- the fault of a pile that isn't read on
abbrev pub pile_fault : PileFault → Fault
pile_fault (piles.BadPile at) = Refused (BadPile at)
pile_fault (piles.TooLong limit) = Refused TooLong
pile_fault piles.SourceFault = Input
pile_fault piles.NoMemory = NoMemory

-- the command came to its defined end, or was refused
abbrev pub HasAnswer : {A : Type 0} → Result A Fault → Type 0
HasAnswer (Ok written) = Unit {0}
HasAnswer (Err fault) = IsRefusal fault
