use Rattle.feed_drill.proofs.DrillLemmas.{course-begun, live-counted}
use Rattle.feed_drill.proofs.run.have_turns.Goals as goal

pub loop-before-init : goal.loop-before-init
loop-before-init c = record {
  lived = c.requires;
  course_is = course-begun c.args.head.now c.args.seed c.new-course.result c.new-course.ensures;
}

pub have_whole_turn-requires : goal.have_whole_turn-requires
have_whole_turn-requires c = live-counted _ _ c.loop-before.invariant.course_is
