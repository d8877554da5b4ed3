use Rattle.std.proofs.Common.{◌≡◌, None, Some, codes, decimal}
use Rattle.coverage_certificate.proofs.FieldLemmas.{spaced_behind, spaced_once}
use Rattle.coverage_certificate.proofs.read.live_of.Goals as goal

pub returns-in_err-number-clause-none : goal.returns-in_err-number-clause-none
returns-in_err-number-clause-none c = λ _ is.
    let parts = spaced_behind (codes "live ") c.args.line.now c.in_ok-after.field-0.now (decimal is.count) is.digest
    c.in_ok-after.ensures.found is.is_digest is.whole in
    let same = (spaced_once c.in_ok-after.field-0.now c.in_ok-count.count.now c.in_ok-count.digest (decimal is.count)
    is.digest c.in_ok-count.ensures.found parts).0 in
    let h : None ≡ Some is.count = c.in_err-number.ensures.only is.count is.small same in
    cc
