-- The history that the lines of an input make, and the answer of `apply W`.
use Rattle.std.specs.Prelude.{ℕ, ◌+◌, List, [], ◌∷◌, ◌++◌, pos, Option, Some, None, Result, Ok, Err, codes}
use Rattle.atom_writer.specs.Pieces.{text}
use Rattle.store_commands.specs.declared.lines.LinesFault.{LinesFault}
use Rattle.store_commands.specs.declared.lines.LinesFault.TheVariants as lines
use Rattle.command_ends.specs.declared.fault.Fault.{Fault}
use Rattle.command_ends.specs.declared.fault.Fault.TheVariants.{NoMemory, Input, Refused}
use Rattle.command_ends.specs.declared.fault.Refusal.TheVariants.{TooLong, BadLine}
use Rattle.command_ends.specs.declared.status.Status.TheVariants.{Done}
use Rattle.member_rules.specs.declared.operation.Op.{Op}
use Rattle.member_rules.specs.declared.ask.Ask.{Ask}
use Rattle.member_rules.specs.declared.fault.RuleFault.{RuleFault}
use Rattle.member_rules.specs.Head.{HeadValue, newest_format}
use Rattle.member_rules.specs.Decide.{decide}
use Rattle.member_rules.specs.Documents.{subscription}
use Rattle.command_ends.specs.Answer.{Answer}
use Rattle.store_commands.specs.Applied.{Applied, Step, applied}
use Rattle.command_ends.specs.Fault.{fault_answer, rule_fault}
use Rattle.store_commands.specs.Line.{line_ask}

-- the head that `apply W` uses
unfoldable pub test_head : ℕ → HeadValue
test_head window = record {
  format = newest_format;
  name = record {
    base = codes "http://feed.example/";
    id = 0x6d ∷ 0x1f ∷ 0x0c ∷ 0x5a ∷ 0x93 ∷ 0xbe ∷ 0x4c ∷ 0x27 ∷ 0x8d ∷ 0x10 ∷ 0x2b ∷ 0x7f ∷ 0x9e ∷ 0x4a ∷ 0x5c ∷ 0x36
        ∷ [];
    title = codes "Feed";
    author = codes "Editor";
  };
  window = window;
  capacity = 1_073_741_824;
  created = pos 0;
}

-- the refusal of a line by the rules, as a fault
abbrev pub refused_line : ℕ → Result Op RuleFault → Result Op Fault
refused_line number (Ok operation) = Ok operation
refused_line number (Err fault) = Err (rule_fault number fault)

-- the operation of a line by its ask, with the clock at `now`
abbrev pub asked : HeadValue → List Op → ℕ → ℕ → Option Ask → Result Op Fault
asked head history number now None = Err (Refused (BadLine number))
asked head history number now (Some ask) = refused_line number (decide head.name head.created history ask now)

-- the operation of a line after `before` other lines, each of which took one moment of the clock
unfoldable pub line_operation : HeadValue → (ℕ → ℕ) → List Op → ℕ → List ℕ → Result Op Fault
line_operation head moments history before line = asked head history (before + 1) (moments before) (line_ask line)

infixl 10 ◌>>=◌
abbrev pub ◌>>=◌ : {A B : Type 0} → Result A Fault → (A → Result B Fault) → Result B Fault
(Ok x) >>= f = f x
(Err e) >>= f = Err e

-- the history with the operation of a line
abbrev pub history_step : HeadValue → (ℕ → ℕ) → Step (List Op)
history_step head moments history before line =
    line_operation head moments history before line >>= λ operation. Ok (history ++ operation ∷ [])

-- the history that an input makes
abbrev pub applied_history : HeadValue → (ℕ → ℕ) → List ℕ → Applied (List Op)
applied_history head moments input = applied (history_step head moments) [] input

-- the fault that ends the lines, as a fault of the command
abbrev pub lines_fault : LinesFault → Fault
lines_fault lines.TooLong = Refused TooLong
lines_fault lines.Input = Input
lines_fault lines.NoMemory = NoMemory

-- the text of the subscription document, or the fault's line
abbrev pub answer_by : HeadValue → List Op → Option Fault → Answer
answer_by head history None = record { status = Done; printed = text (subscription head history) }
answer_by head history (Some fault) = fault_answer fault

unfoldable pub answer : HeadValue → (ℕ → ℕ) → List ℕ → Answer
answer head moments input =
    let made = applied_history head moments input in answer_by head made.feed made.fault
