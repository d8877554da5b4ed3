use Rattle.feed_drill.proofs.DrillLemmas.{born-lived}
use Rattle.feed_drill.proofs.run.drill.Goals as goal

pub have_turns-requires : goal.have_turns-requires
have_turns-requires c = born-lived c.args.head.now c.args.seed c.in_ok-life.life record {
  head_is = c.in_ok-life.ensures.head;
  mirrors_are = c.in_ok-life.ensures.mirrors;
  lives = c.in_ok-life.ensures.lives;
  sent = c.in_ok-life.ensures.sent;
  stops = c.in_ok-life.ensures.stops;
  lost = c.in_ok-life.ensures.lost;
}

pub returns-clause-drilled : goal.returns-clause-drilled
returns-clause-drilled c = c.in-Ok-summarize.ensures.drilled
