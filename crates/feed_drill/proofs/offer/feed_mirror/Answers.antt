use Rattle.feed_drill.proofs.OfferLemmas.{fed-again, fed-once, last-inside}
use Rattle.feed_drill.proofs.TurnLemmas.{on-ok}
use Rattle.feed_drill.proofs.offer.feed_mirror.Goals as goal

pub returns-then-turn-eq0 : goal.returns-then-turn-eq0
returns-then-turn-eq0 c = on-ok c.offer_again.result (λ offers history kept lives same.
    let shown = c.in_ok-show.ensures history _ lives same in
    let inside = last-inside c.args.life.now c.show.new.life c.offer_again.new.life c.args.turn history kept
    c.in_ok-last.last shown c.in_ok-last.ensures in
    fed-again c.args.life.now c.show.new.life c.offer_again.new.life c.args.turn history kept c.in_ok-last.last shown
    c.in_ok-last.ensures c.if-turn-eq0.true (offers history kept shown.lives inside)) c.offer_again.ensures

pub returns-else-turn-eq0 : goal.returns-else-turn-eq0
returns-else-turn-eq0 c = on-ok c.offer.result (λ offers history kept lives same.
    let shown = c.in_ok-show.ensures history _ lives same in
    let inside = last-inside c.args.life.now c.show.new.life c.offer.new.life c.args.turn history kept
    c.in_ok-last.last shown c.in_ok-last.ensures in
    fed-once c.args.life.now c.show.new.life c.offer.new.life c.args.turn history kept c.in_ok-last.last shown
    c.in_ok-last.ensures c.if-turn-eq0.false (offers history kept shown.lives inside)) c.offer.ensures
