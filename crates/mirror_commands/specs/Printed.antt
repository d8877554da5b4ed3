-- The output of a command with two defined ends.
use Rattle.coverage_certificate.specs.Text.{certificate_text}
use Rattle.mirror_commands.specs.declared.printed.Printed.{Printed}
use Rattle.mirror_commands.specs.declared.printed.Printed.TheVariants.{Certificate, Text}
use Rattle.command_ends.specs.declared.status.Status.TheVariants.{Done}
use Rattle.command_ends.specs.Answer.{Answer}

-- the status, and the bytes that are printed
abbrev pub printed_answer : Printed → Answer
printed_answer (Text status text) = record { status = status; printed = text.items }
printed_answer (Certificate certificate) = record { status = Done; printed = certificate_text certificate }
