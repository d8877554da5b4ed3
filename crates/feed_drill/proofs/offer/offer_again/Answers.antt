use Rattle.feed_drill.proofs.OfferLemmas.{offer-twice, same-sent}
use Rattle.feed_drill.proofs.TurnLemmas.{on-ok}
use Rattle.feed_drill.proofs.offer.offer_again.Goals as goal

pub returns : goal.returns
returns c = on-ok c.offer-2.result (λ again history kept lives inside.
    let one = c.in_ok-offer.ensures history kept lives inside in
    offer-twice c.args.life.now c.offer.new.life c.offer-2.new.life history kept _ _ _ one
    (again history one.kept one.lives
    (same-sent c.args.life.now c.offer.new.life history kept _ _ c.args.sent one inside))) c.offer-2.ensures
