use Rattle.std.proofs.Common.{Some, Err, ap, sym, ◌∙◌}
use Rattle.store_commands.proofs.LineLemmas.{line_ask-bad, line_ask-read}
use Rattle.store_commands.proofs.line.line_ask.Goals as goal

pub returns-in-Ok : goal.returns-in-Ok
returns-in-Ok c =
    ap Some c.ask_of.ensures ∙ sym (line_ask-read c.args.line.now c.in-Ok.ask c.in-Ok.ensures.found)

pub returns-in-Err-BadLine : goal.returns-in-Err-BadLine
returns-in-Err-BadLine c =
    sym (line_ask-bad c.args.line.now (c.in-Err-BadLine.ensures.bad (ap Err c.in-Err-BadLine.field-0-is)))
