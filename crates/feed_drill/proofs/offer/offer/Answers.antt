use Rattle.feed_drill.proofs.OfferLemmas.{offer-done}
use Rattle.feed_drill.proofs.offer.offer.Goals as goal

pub returns : goal.returns
returns c history kept lives inside =
    offer-done c.args.life.now c.step.new.self history kept c.args.sent c.args.stop c.in_ok-step.field-0 lives inside
    (c.in_ok-step.ensures.stepped history _ lives)
