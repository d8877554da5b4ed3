use Rattle.std.proofs.Common.{◌≡◌, None, Some, codes, sym, subst, ◌∙◌}
use Rattle.std.proofs.lemmas.Bool.{false≢true}
use Rattle.chain_links.specs.Address.{printed}
use Rattle.coverage_certificate.specs.Reading.{Fits}
use Rattle.coverage_certificate.proofs.BreakLemmas.{fits_address}
use Rattle.coverage_certificate.proofs.FieldLemmas.{spaced_behind, spaced_once}
use Rattle.coverage_certificate.proofs.read.document_of.Goals as goal

pub returns-in_err-address-2-clause-none : goal.returns-in_err-address-2-clause-none
returns-in_err-address-2-clause-none c = λ _ is.
    let text = printed c.args.base.now is.cover.address in
    let parts = spaced_behind (codes "document ") c.args.line.now c.in_ok-after.field-0.now text is.cover.digest
    c.in_ok-after.ensures.found is.is_digest is.whole in
    let same = (spaced_once c.in_ok-after.field-0.now c.in_ok-address.address.now c.in_ok-address.digest text
    is.cover.digest c.in_ok-address.ensures.found parts).0 in
    let h : None ≡ Some is.cover.address = c.in_err-address-2.ensures.only is.cover.address
    (fits_address c.args.is_first is.cover.address is.fits) same in
    cc

pub returns-else-fits-clause-none : goal.returns-else-fits-clause-none
returns-else-fits-clause-none c = λ _ is.
    let text = printed c.args.base.now is.cover.address in
    let parts = spaced_behind (codes "document ") c.args.line.now c.in_ok-after.field-0.now text is.cover.digest
    c.in_ok-after.ensures.found is.is_digest is.whole in
    let same = (spaced_once c.in_ok-after.field-0.now c.in_ok-address.address.now c.in_ok-address.digest text
    is.cover.digest c.in_ok-address.ensures.found parts).0 in
    let read : Some c.in_ok-address-2.address ≡ Some is.cover.address =
    c.in_ok-address-2.ensures.only is.cover.address (fits_address c.args.is_first is.cover.address is.fits) same in
    let one : c.in_ok-address-2.address ≡ is.cover.address = cc in
    false≢true (sym c.if-fits.false ∙ c.fits.ensures.1 (subst (Fits c.args.is_first) (sym one) is.fits))
