-- The faults that end the lines, as faults of the command.
use Rattle.std.proofs.Common.{◌≡◌, refl}
use Rattle.store_commands.specs.declared.lines.LinesFault.{LinesFault}
use Rattle.store_commands.specs.declared.lines.LinesFault.TheVariants as lines
use Rattle.command_ends.specs.declared.fault.Fault.{Fault}
use Rattle.command_ends.specs.declared.fault.Fault.TheVariants.{Disk, Input, Refused}
use Rattle.command_ends.specs.declared.fault.Refusal.TheVariants.{TooLong}
use Rattle.store_commands.specs.Apply.{lines_fault}
use Rattle.command_ends.specs.Fault.{IsRefusal}

-- one of the faults that end the lines is a refusal
pub refusal-of_lines : (P : Fault → Type 0) (fault : LinesFault) → (fault ≡ lines.TooLong → P (Refused TooLong))
    → IsRefusal (lines_fault fault) → P (lines_fault fault)
refusal-of_lines P lines.TooLong h r = h refl
refusal-of_lines P lines.Input h r = absurd r
refusal-of_lines P lines.NoMemory h r = absurd r

pub input-of_lines : (fault : LinesFault) → lines_fault fault ≡ Input → fault ≡ lines.Input
input-of_lines lines.TooLong e = cc
input-of_lines lines.Input e = refl
input-of_lines lines.NoMemory e = cc

pub lines-no_disk : (fault : LinesFault) → lines_fault fault ≡ Disk → ⊥
lines-no_disk lines.TooLong e = cc
lines-no_disk lines.Input e = cc
lines-no_disk lines.NoMemory e = cc
