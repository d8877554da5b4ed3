use Rattle.feed_life.proofs.HeadlineLemmas.{life-keeps}
use Rattle.feed_life.proofs.LivedLemmas.{midway-all, midway-born, midway-more}
use Rattle.feed_life.proofs.step.life.Goals as goal

pub loop-event-init : goal.loop-event-init
loop-event-init c = midway-born c.args.head.now c.args.mirrors c.args.events.now c.in_ok-life.life record {
  head_is = c.in_ok-life.ensures.head;
  mirrors_are = c.in_ok-life.ensures.mirrors;
  lives = c.in_ok-life.ensures.lives;
  sent = c.in_ok-life.ensures.sent;
  stops = c.in_ok-life.ensures.stops;
  lost = c.in_ok-life.ensures.lost;
}

pub loop-event-preserved : goal.loop-event-preserved
loop-event-preserved c =
    midway-more c.args.head.now c.args.mirrors c.args.events.now c.loop-event.event-index c.event-item.result
    c.loop-event.life c.step_by.new.self c.in-Ok.field-0 c.loop-event-test.true c.event-item.is
    c.in-Ok.ensures.stepped c.loop-event.invariant

pub returns : goal.returns
returns c =
    let lived = midway-all c.args.head.now c.args.mirrors c.args.events.now c.loop-event.event-index c.loop-event.life
    c.loop-event-test.false c.loop-event.invariant in
    record {
      lived = lived;
      headline = life-keeps c.archives_stay.ensures c.served_documents_show_the_fold.ensures c.args.head.now
          c.args.mirrors c.args.events.now c.loop-event.life lived;
    }
