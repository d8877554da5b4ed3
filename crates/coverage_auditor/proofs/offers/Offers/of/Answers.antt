use Rattle.std.proofs.Common.{◌≡◌, ◌+◌, ◌<◌, ◌∷◌, [], ◌++◌, List, take, length, get_or, ap, sym, subst, ◌∙◌, arith}
use Rattle.std.proofs.lemmas.List.{length-take-le, take_all, take_more}
use Rattle.doc_source.specs.declared.offer.Offer.{Offer}
use Rattle.coverage_auditor.specs.Offers.{IsIndexOf}
use Rattle.coverage_auditor.proofs.OffersLemmas.{index-none}
use Rattle.coverage_auditor.proofs.offers.Offers.of.Goals as goal

pub loop-at-init : goal.loop-at-init
loop-at-init c = index-none c.args.base.now c.new.result c.new-2.result c.new.ensures.empty c.new-2.ensures.empty

pub loop-at-preserved : goal.loop-at-preserved
loop-at-preserved c =
    let pile = c.args.pile.now in
    let at = c.loop-at.at in
    let offer = c.index-pile-at.result in
    let within : at < length pile = omega (arith, c.loop-at-test.true) in
    let next : take (at + 1) pile ≡ take at pile ++ offer ∷ [] =
    take_more pile at offer within ∙ ap (λ (o : Offer). take at pile ++ o ∷ []) (sym c.index-pile-at.is) in
    let size : length (take at pile) ≡ at = length-take-le at pile (omega (arith, within)) in
    let more = c.in_ok-add.ensures (take at pile) size c.loop-at.invariant in
    subst (λ (offers : List Offer). IsIndexOf c.args.base.now offers c.add.new.self.firsts c.add.new.self.places)
    (sym next) more

pub returns : goal.returns
returns c =
    let pile = c.args.pile.now in
    subst (λ (offers : List Offer). IsIndexOf c.args.base.now offers c.loop-at.offers.firsts c.loop-at.offers.places)
    (take_all c.loop-at.at pile c.loop-at-test.false) c.loop-at.invariant
