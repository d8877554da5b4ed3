use Rattle.std.proofs.Common.{ap, option_map}
use Rattle.tool_words.specs.declared.line.LineAsk.TheVariants.{Remove}
use Rattle.tool_words.proofs.line.removal_of.Goals as goal

pub returns-in_err-number-clause-bad : goal.returns-in_err-number-clause-bad
returns-in_err-number-clause-bad c = λ _. ap (option_map Remove) c.in_err-number.ensures.1

pub returns-clause-found : goal.returns-clause-found
returns-clause-found c = ap (option_map Remove) c.in_ok-number.ensures
