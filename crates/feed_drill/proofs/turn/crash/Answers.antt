use Rattle.std.proofs.Common.{◌∙◌, ap}
use Rattle.feed_drill.specs.Effects.{ask_of}
use Rattle.feed_drill.specs.Requests.{request_of}
use Rattle.feed_drill.proofs.TurnLemmas.{crash-done}
use Rattle.feed_drill.proofs.turn.crash.Goals as goal

pub returns : goal.returns
returns c history held lives same =
    crash-done c.args.life.now c.step.new.self c.args.head.now c.args.turn c.args.wish c.in_ok-request.request
    c.clock.result _ c.args.stop history held c.in_ok-step.field-0 c.requires c.in_ok-request.ensures.read
    (c.in_ok-request.ensures.request
    ∙ ap (λ h. request_of h.name.base c.args.turn (ask_of c.args.turn c.args.wish)) c.head.view_is) c.clock.ensures same
    (c.in_ok-step.ensures.stepped history held lives)
