use Rattle.std.proofs.Common.{ap, refl, ◌∙◌, arith}
use Rattle.feed_life.proofs.StepLemmas.{life-given}
use Rattle.feed_life.proofs.lives.Life.give.Goals as goal

pub invariant_of-self-2 : goal.invariant_of-self-2
invariant_of-self-2 c kept =
    let lost = ap (λ l. l.lost) c.self.view_is ∙ c.requires in
    let alive = c.self.invariant lost in
    let step = life-given _ _ alive.history alive.held c.args.mirror c.index_mut.result.now refl alive.lives
    (omega (arith, c.len-else-len-sent.ensures, c.if-len-mirror.false, c.self.inside.mirrors.ok))
    c.index_mut.ensures.value lost c.args.stop.now c.with_stop-self-inside.result c.with_stop-self-inside.ensures
    c.give_or_crash.new.disk c.args.sent c.index.result.now
    (omega (arith, c.len.ensures, c.if-len-sent.false, c.self.inside.sent.ok)) c.index.ensures
    (c.in_ok-give_or_crash.ensures alive.history) in
    record { history = step.later; held = step.left; lives = step.lives }

pub returns-clause-stepped : goal.returns-clause-stepped
returns-clause-stepped c history held lives =
    life-given _ _ history held c.args.mirror c.index_mut.result.now c.self.view_is lives
    (omega (arith, c.len-else-len-sent.ensures, c.if-len-mirror.false, c.self.inside.mirrors.ok))
    c.index_mut.ensures.value c.requires c.args.stop.now c.with_stop-self-inside.result c.with_stop-self-inside.ensures
    c.give_or_crash.new.disk c.args.sent c.index.result.now
    (omega (arith, c.len.ensures, c.if-len-sent.false, c.self.inside.sent.ok)) c.index.ensures
    (c.in_ok-give_or_crash.ensures history)
