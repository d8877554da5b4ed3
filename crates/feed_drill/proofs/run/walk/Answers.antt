use Rattle.feed_drill.proofs.EndLemmas.{walk-drilled}
use Rattle.feed_drill.proofs.run.walk.Goals as goal

pub returns : goal.returns
returns c head seed count lived =
    walk-drilled head seed count c.args.life.now c.step.new.self c.in_ok-step.field-0 c.in_ok-step.ensures.stepped
    c.in_ok-step.ensures.alive lived
