use Rattle.std.proofs.Common.{Err, ap}
use Rattle.tool_words.specs.declared.fault.LineFault.TheVariants.{BadLine}
use Rattle.tool_words.proofs.LineLemmas.{change_of-unparted, change_of-no_number, change_of-no_title, change_of-both}
use Rattle.tool_words.proofs.LineLemmas.{same_fault}
use Rattle.tool_words.proofs.line.change_of.Goals as goal

pub returns-in_default-clause-bad : goal.returns-in_default-clause-bad
returns-in_default-clause-bad c = λ _. change_of-unparted c.args.words.now c.in_default.ensures

pub returns-in_err-number-clause-bad : goal.returns-in_err-number-clause-bad
returns-in_err-number-clause-bad c = λ _.
    change_of-no_number c.args.words.now c.in-Some.digits.now c.in-Some.title.now c.in-Some.ensures
    c.in_err-number.ensures.1

pub returns-in_err-title-clause-bad : goal.returns-in_err-title-clause-bad
returns-in_err-title-clause-bad c = λ e.
    change_of-no_title c.args.words.now c.in-Some.digits.now c.in-Some.title.now c.in_ok-number.number c.in-Some.ensures
    c.in_ok-number.ensures (c.in_err-title.ensures.bad (ap Err (same_fault c.from_residual-in_err-title.result
    c.in_err-title.field-0.0 BadLine c.from_residual-in_err-title.ensures.1 e)))

pub returns-clause-found : goal.returns-clause-found
returns-clause-found c =
    change_of-both c.args.words.now c.in-Some.digits.now c.in-Some.title.now c.in_ok-title.title c.in_ok-number.number
    c.in-Some.ensures c.in_ok-number.ensures c.in_ok-title.ensures.found
