use Rattle.std.proofs.Common.{Err, ap, option_map}
use Rattle.tool_words.specs.declared.fault.LineFault.TheVariants.{BadLine}
use Rattle.tool_words.specs.declared.line.LineAsk.TheVariants.{Title}
use Rattle.tool_words.proofs.LineLemmas.{same_fault}
use Rattle.tool_words.proofs.line.feed_title_of.Goals as goal

pub returns-in_err-title-clause-bad : goal.returns-in_err-title-clause-bad
returns-in_err-title-clause-bad c = λ e.
    ap (option_map Title) (c.in_err-title.ensures.bad (ap Err (same_fault c.from_residual.result
    c.in_err-title.field-0.0 BadLine c.from_residual.ensures.1 e)))

pub returns-clause-found : goal.returns-clause-found
returns-clause-found c = ap (option_map Title) c.in_ok-title.ensures.found
