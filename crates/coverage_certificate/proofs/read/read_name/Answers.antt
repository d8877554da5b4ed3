use Rattle.std.proofs.Common.{refl}
use Rattle.coverage_certificate.specs.Reading.{IsFeedLine}
use Rattle.coverage_certificate.proofs.BreakLemmas.{feed_line_lacks}
use Rattle.coverage_certificate.proofs.LineLemmas.{none_line, none_text}
use Rattle.coverage_certificate.proofs.read.read_name.Goals as goal

pub returns-in_default-clause-none : goal.returns-in_default-clause-none
returns-in_default-clause-none c = λ _. none_text IsFeedLine c.args.text.now (c.in_default.ensures.none refl)

pub returns-in-None-clause-none : goal.returns-in-None-clause-none
returns-in-None-clause-none c = λ _.
    none_line IsFeedLine feed_line_lacks c.args.text.now _ _ c.in-Some.ensures.found
    (c.in_ok-found.ensures.none c.in-None.is)
