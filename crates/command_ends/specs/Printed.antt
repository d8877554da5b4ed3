-- The text of a command at a defined end.
use Rattle.std.specs.Prelude.{ℕ, List, ◌++◌, codes}
use Rattle.command_ends.specs.declared.printed.Printed.{Printed}
use Rattle.command_ends.specs.Answer.{Answer}

abbrev pub printed_answer : Printed → Answer
printed_answer p = record { status = p.status; printed = p.text.items }

-- words and an address
abbrev pub address_line : List ℕ → List ℕ → List ℕ
address_line words address = words ++ address ++ codes "\n"
