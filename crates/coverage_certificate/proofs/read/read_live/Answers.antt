use Rattle.std.proofs.Common.{refl}
use Rattle.coverage_certificate.specs.Reading.{IsLiveLine}
use Rattle.coverage_certificate.proofs.BreakLemmas.{live_line_lacks}
use Rattle.coverage_certificate.proofs.LineLemmas.{none_line, none_text}
use Rattle.coverage_certificate.proofs.read.read_live.Goals as goal

pub returns-in_err-line-clause-none : goal.returns-in_err-line-clause-none
returns-in_err-line-clause-none c = λ _. none_text IsLiveLine c.args.text.now (c.in_err-line.ensures.none refl)

pub returns-in_err-live_of-clause-none : goal.returns-in_err-live_of-clause-none
returns-in_err-live_of-clause-none c = λ _.
    none_line IsLiveLine live_line_lacks c.args.text.now _ _ c.in_ok-line.ensures.found
    (c.in_err-live_of.ensures.none refl)
