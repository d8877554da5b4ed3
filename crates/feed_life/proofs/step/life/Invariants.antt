use Rattle.std.proofs.Common.{drop}
use Rattle.feed_life.proofs.LivedLemmas.{IsMidway}
use Rattle.feed_life.proofs.step.life.Given as goal

abbrev pub invariant-loop-event : goal.invariant-loop-event
invariant-loop-event l = IsMidway l.head l.mirrors l.events (drop l.event-index l.events) l.life
