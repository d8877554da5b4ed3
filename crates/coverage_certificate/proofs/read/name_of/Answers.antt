use Rattle.std.proofs.Common.{sym, subst, ◌∙◌}
use Rattle.chain_links.specs.Base.{IsBase}
use Rattle.coverage_certificate.proofs.NextLemmas.{feed_line_parts}
use Rattle.coverage_certificate.proofs.read.name_of.Goals as goal

pub returns-in-Err-BadBase-clause-none : goal.returns-in-Err-BadBase-clause-none
returns-in-Err-BadBase-clause-none c = λ _ is.
    let found = c.in-Some.ensures.found in
    let same = (feed_line_parts c.in-Some.fields.0 c.in-Some.fields.1.now is.feed is.base (sym found.1 ∙ is.whole)).1 in
    c.in-Err-BadBase.ensures.refused (let w = c.in-Err-BadBase.field-0-is in cc) (subst IsBase (sym same) is.is_base)
