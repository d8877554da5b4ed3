use Rattle.std.proofs.Common.{◌∙◌, ap, sym}
use Rattle.feed_drill.specs.Effects.{ask_of}
use Rattle.feed_drill.specs.Requests.{request_of}
use Rattle.feed_drill.proofs.TurnLemmas.{ask-done}
use Rattle.feed_drill.proofs.turn.ask.Goals as goal

pub returns : goal.returns
returns c history held lives same next =
    ask-done c.args.life.now c.step.new.self c.args.head.now c.args.turn c.args.wish c.in_ok-request.request
    c.clock.result
    _ history held c.in_ok-step.field-0 c.requires c.in_ok-request.ensures.read
    (c.in_ok-request.ensures.request
    ∙ ap (λ h. request_of h.name.base c.args.turn (ask_of c.args.turn c.args.wish)) c.head.view_is) c.clock.ensures same
    (c.in_ok-step.ensures.stepped history held lives) (sym c.version.ensures ∙ c.if-version-turn.false) next
