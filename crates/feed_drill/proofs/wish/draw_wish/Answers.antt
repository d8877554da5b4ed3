use Rattle.std.proofs.Common.{◌∙◌, ap}
use Rattle.feed_drill.proofs.WishLemmas.{asked-change, asked-create, change-delete, change-replace, makes-low}
use Rattle.feed_drill.proofs.WishLemmas.{makes-none, makes-not}
use Rattle.feed_drill.proofs.wish.draw_wish.Goals as goal
use Rattle.feed_drill.proofs.wish.draw_wish.Goals.{then-is_empty-via-then-is_empty}
use Rattle.feed_drill.proofs.wish.draw_wish.Goals.{then-is_empty-via-else-is_empty+then-first-lt2}

pub returns-then-is_empty-clause-asked : goal.returns-then-is_empty-clause-asked
returns-then-is_empty-clause-asked c turn =
    asked-create c.args.live.now turn c.args.draws.now c.draw-first.new.self c.draw-first.result
    c.draw-first.ensures.next
    c.draw-first.ensures.number (elim c.then-is_empty.branch [
      | then-is_empty-via-then-is_empty w ↦
          makes-none c.args.live.now c.draw-first.result c.is_empty.result c.is_empty.ensures w.if-is_empty.true
      | then-is_empty-via-else-is_empty+then-first-lt2 w ↦
          makes-low c.args.live.now c.draw-first.result w.if-first-lt2.true
    ])

pub returns-then-first-eq2-clause-asked : goal.returns-then-first-eq2-clause-asked
returns-then-first-eq2-clause-asked c turn =
    asked-change c.args.live.now turn c.args.draws.now c.draw-first.new.self c.draw.new.self c.draw-first.result
    c.draw.result c.draw-first.ensures.next c.draw-first.ensures.number c.draw.ensures.next c.draw.ensures.number
    (makes-not c.args.live.now c.draw-first.result c.is_empty.result c.is_empty.ensures c.if-is_empty.false
    c.if-first-lt2.false)
    ∙ ap (λ k. record { ask = k; state = c.draw.new.self })
    (change-replace turn c.draw-first.result _ c.if-first-eq2.true)

pub returns-else-first-eq2-clause-asked : goal.returns-else-first-eq2-clause-asked
returns-else-first-eq2-clause-asked c turn =
    asked-change c.args.live.now turn c.args.draws.now c.draw-first.new.self c.draw.new.self c.draw-first.result
    c.draw.result c.draw-first.ensures.next c.draw-first.ensures.number c.draw.ensures.next c.draw.ensures.number
    (makes-not c.args.live.now c.draw-first.result c.is_empty.result c.is_empty.ensures c.if-is_empty.false
    c.if-first-lt2.false)
    ∙ ap (λ k. record { ask = k; state = c.draw.new.self })
    (change-delete turn c.draw-first.result _ c.if-first-eq2.false)
