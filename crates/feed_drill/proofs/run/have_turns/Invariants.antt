use Rattle.feed_drill.specs.Effects.{IsReached}
use Rattle.feed_drill.proofs.run.have_turns.Given as goal

abbrev pub invariant-loop-before : goal.invariant-loop-before
invariant-loop-before l = IsReached l.head l.seed l.before l.life l.course
