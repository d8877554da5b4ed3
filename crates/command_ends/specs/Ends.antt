-- How a command ends: its exit status and what it prints.
use Rattle.std.specs.Prelude.{◌≡◌, ◌⊎◌, ℕ, ◌≤◌, List, ◌++◌, ◌==◌, if◌then◌else◌, codes}
use Rattle.atom_values.specs.Counts.{HasRisen}
use Rattle.doc_source.specs.Outside.{SinkState}
use Rattle.command_ends.specs.declared.fault.Fault.TheVariants.{NoMemory, Input, Disk}
use Rattle.command_ends.specs.declared.status.Status.{Status}
use Rattle.command_ends.specs.declared.status.Status.TheVariants as ends
use Rattle.command_ends.specs.Answer.{Answer, Prints, usage_line}
use Rattle.command_ends.specs.Fault.{fault_answer}
use Rattle.command_ends.specs.Status.{code_of}

-- an exit status
abbrev pub IsStatus : ℕ → Type 0
IsStatus ended = (status : Status) × (ended ≡ code_of status)

-- the exit statuses of the defined ends
abbrev pub IsDone : ℕ → Type 0
IsDone ended = (ended ≡ code_of ends.Done) ⊎ (ended ≡ code_of ends.Incomplete)

-- the exit statuses that input, clock and disk determine: the defined ends and the refusals
abbrev pub IsDetermined : ℕ → Type 0
IsDetermined ended =
    (ended ≡ code_of ends.Done) ⊎ (ended ≡ code_of ends.Incomplete) ⊎ (ended ≡ code_of ends.BadStore) ⊎
    (ended ≡ code_of ends.BadInput)
    ⊎ (ended ≡ code_of ends.Full) ⊎ (ended ≡ code_of ends.Refused)

-- the exit statuses after an answer: these, and a failure of the output
abbrev pub IsAnswered : ℕ → Type 0
IsAnswered ended = IsDetermined ended ⊎ (ended ≡ code_of ends.OutputFault)

-- A command that has such an answer ends with it. The exit status is the answer's, or that of a failed output where the
-- answer is a defined end. The output took what the answer prints, or a prefix of it where a call on the output failed.
pub record EndsAs (IsAnswer : Answer → Type 0) (observable : Type 0) (before after : SinkState) (ended : ℕ) : Type 0 where
  pub answer : Answer
  pub is : IsAnswer answer
  pub status :
      (ended ≡ code_of answer.status) ⊎ ((ended ≡ code_of ends.OutputFault) × IsDone (code_of answer.status))
  pub prints : observable → Prints before after answer.printed
  pub whole : observable → IsDone ended → after.taken ≡ before.taken ++ answer.printed

-- The output's count of faults rose if the status is that of a failed output, and is as it was at a defined end. After
-- a fault of another object it may have risen too, since the fault's line may not be printed.
pub record CountsOutput (before after : ℕ) (ended : ℕ) : Type 0 where
  pub later : before ≤ after
  pub failed : ended ≡ code_of ends.OutputFault → HasRisen before after
  pub whole : IsDone ended → after ≡ before

-- the line of a source of documents that failed
abbrev pub fetch_line : List ℕ
fetch_line = codes "fetch fault\n"

-- the exit statuses whose line says nothing of the input
abbrev pub IsAlone : ℕ → Type 0
IsAlone ended =
    (ended ≡ code_of ends.Usage) ⊎ (ended ≡ code_of ends.DiskFault) ⊎ (ended ≡ code_of ends.NoMemory)
    ⊎ (ended ≡ code_of ends.FetchFault) ⊎ (ended ≡ code_of ends.InputFault)

-- the line of each
abbrev pub alone_line : ℕ → List ℕ
alone_line ended =
    if ended == code_of ends.Usage then usage_line
    else (if ended == code_of ends.DiskFault then (fault_answer Disk).printed
    else (if ended == code_of ends.NoMemory then (fault_answer NoMemory).printed
    else (if ended == code_of ends.FetchFault then fetch_line else (fault_answer Input).printed)))
