use Rattle.std.proofs.Common.{ap, refl, ◌∙◌}
use Rattle.feed_life.proofs.HaltedLemmas.{life-set}
use Rattle.feed_life.proofs.lives.Life.change.Goals as goal

pub returns-clause-is_set : goal.returns-clause-is_set
returns-clause-is_set c history held lives =
    life-set _ c.args.self.now c.args.setting.now c.args.now history held c.ask.new.disk
    c.in_ok-answered.answered.reply c.in_ok-answered.answered.line c.in_ok-answered.answered.sealed c.self.view_is lives
    (c.in_ok-answered.ensures.answered _ history)

pub invariant_of-self-2 : goal.invariant_of-self-2
invariant_of-self-2 c kept =
    let alive = c.self.invariant (ap (λ l. l.lost) c.self.view_is ∙ c.requires) in
    let is_set = life-set _ _ c.args.setting.now c.args.now alive.history alive.held c.ask.new.disk
    c.in_ok-answered.answered.reply c.in_ok-answered.answered.line c.in_ok-answered.answered.sealed refl alive.lives
    (c.in_ok-answered.ensures.answered _ alive.history) in
    record { history = is_set.later; held = alive.held; lives = is_set.lives }
