use Rattle.feed_drill.proofs.DrillLemmas.{feed-reached, have-reached}
use Rattle.feed_drill.proofs.TurnLemmas.{on-ok}
use Rattle.feed_drill.proofs.run.have_whole_turn.Goals as goal

pub returns-then-turn-ne0 : goal.returns-then-turn-ne0
returns-then-turn-ne0 c seed count reached next =
    have-reached c.args.head.now seed count c.args.turn c.args.life.now c.have_turn.new.life c.args.course.now
    c.have_turn.new.course reached next c.ranges.turn.fits c.in_ok-have_turn.ensures c.if-turn-ne0.true

pub returns : goal.returns
returns c = on-ok c.feed_mirror.result (λ feeds seed count reached next.
    feed-reached c.args.head.now seed count c.args.turn c.args.life.now c.have_turn.new.life c.feed_mirror.new.life
    c.args.course.now c.have_turn.new.course reached next c.ranges.turn.fits c.in_ok-have_turn.ensures
    c.if-turn-ne0.false feeds) c.feed_mirror.ensures
