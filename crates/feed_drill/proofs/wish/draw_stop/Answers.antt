use Rattle.std.proofs.lemmas.Grind.{common_steps}
use Rattle.std.proofs.Common.{arith}
use Rattle.feed_drill.specs.Turn.{crash_after}
use Rattle.feed_drill.proofs.wish.draw_stop.Goals as goal

pub returns-clause-stop : goal.returns-clause-stop
unfolding crash_after
returns-clause-stop c = grind (arith, common_steps)
