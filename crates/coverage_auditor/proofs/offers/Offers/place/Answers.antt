use Rattle.std.proofs.Common.{sym, ap, ◌∙◌}
use Rattle.std.specs.BTreeMap.{get}
use Rattle.coverage_auditor.specs.Finding.{offer_of}
use Rattle.coverage_auditor.specs.Offers.{key_cmp, line_key}
use Rattle.coverage_auditor.proofs.OffersLemmas.{placed-found}
use Rattle.coverage_auditor.proofs.offers.Offers.place.Goals as goal

pub returns-in-Some : goal.returns-in-Some
returns-in-Some c c' pile index =
    let places = c.args.self.now.places in
    let line = c.args.line.now in
    placed-found pile (get key_cmp places (line_key line)) c.in-Some.at.now (offer_of c'.base pile line)
    (index.placed line c.requires)
    (ap (get key_cmp places) (sym c.line_key.ensures) ∙ sym c.in-Some.ensures.value)
