use Rattle.std.proofs.Common.{refl}
use Rattle.coverage_certificate.specs.Reading.{IsVersionLine}
use Rattle.coverage_certificate.proofs.BreakLemmas.{version_line_lacks}
use Rattle.coverage_certificate.proofs.LineLemmas.{none_line, none_text}
use Rattle.coverage_certificate.proofs.read.read_version.Goals as goal

pub returns-in_err-line-clause-none : goal.returns-in_err-line-clause-none
returns-in_err-line-clause-none c = λ _. none_text IsVersionLine c.args.text.now (c.in_err-line.ensures.none refl)

pub returns-in_err-version_of-clause-none : goal.returns-in_err-version_of-clause-none
returns-in_err-version_of-clause-none c = λ _.
    none_line IsVersionLine version_line_lacks c.args.text.now _ _ c.in_ok-line.ensures.found
    (c.in_err-version_of.ensures.none refl)
