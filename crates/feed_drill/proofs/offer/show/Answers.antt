use Rattle.std.proofs.Common.{◌∙◌, ap}
use Rattle.feed_drill.specs.Requests.{feed_request}
use Rattle.feed_drill.proofs.OfferLemmas.{show-done}
use Rattle.feed_drill.proofs.offer.show.Goals as goal

pub returns : goal.returns
returns c history held lives same =
    show-done c.args.life.now c.step.new.self c.args.head.now c.in_ok-request.request c.clock.result _ history held
    c.in_ok-step.field-0 (c.in_ok-request.ensures ∙ ap (λ h. feed_request h.name.base) c.head.view_is) c.clock.ensures
    same
    (c.in_ok-step.ensures.stepped history held lives)
