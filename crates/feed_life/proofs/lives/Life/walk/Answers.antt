use Rattle.std.proofs.Common.{ap, refl, ◌∙◌, arith}
use Rattle.feed_life.proofs.StepLemmas.{life-walked}
use Rattle.feed_life.proofs.lives.Life.walk.Goals as goal

pub invariant_of-self-2 : goal.invariant_of-self-2
invariant_of-self-2 c kept =
    let lost = ap (λ l. l.lost) c.self.view_is ∙ c.requires in
    let alive = c.self.invariant lost in
    let step = life-walked _ _ alive.history alive.held c.args.mirror c.index_mut.result.now refl alive.lives
    (omega (arith, c.len.ensures, c.if-len-mirror.false, c.self.inside.mirrors.ok))
    c.index_mut.ensures.value lost c.args.stop.now c.with_stop-self-inside.result c.with_stop-self-inside.ensures
    c.walk_or_crash.new.disk c.walk_or_crash.new.store_disk (c.in_ok-walk_or_crash.ensures.store alive.history)
    (c.in_ok-walk_or_crash.ensures.walked alive.history) in
    record { history = step.later; held = step.left; lives = step.lives }

pub returns-clause-stepped : goal.returns-clause-stepped
returns-clause-stepped c history held lives =
    life-walked _ _ history held c.args.mirror c.index_mut.result.now c.self.view_is lives
    (omega (arith, c.len.ensures, c.if-len-mirror.false, c.self.inside.mirrors.ok))
    c.index_mut.ensures.value c.requires c.args.stop.now c.with_stop-self-inside.result c.with_stop-self-inside.ensures
    c.walk_or_crash.new.disk c.walk_or_crash.new.store_disk (c.in_ok-walk_or_crash.ensures.store history)
    (c.in_ok-walk_or_crash.ensures.walked history)
