use Rattle.std.proofs.Common.{ap, refl, ◌∙◌}
use Rattle.feed_life.proofs.HaltedLemmas.{life-halted}
use Rattle.feed_life.proofs.lives.Life.answer_into.Goals as goal

pub returns-clause-halted : goal.returns-clause-halted
returns-clause-halted g c history held lives =
    life-halted _ c.args.self.now (g.T.Turn.outcomes c.args.turn.now c.args.now) c.args.stop.now history held
    c.in_ok-left.left c.replace.new.dest c.load_numbers.new.disk c.in_ok-numbers.numbers.version
    c.in_ok-numbers.numbers.sealed _ c.self.view_is lives c.replace.ensures.after
    (c.in_ok-left.ensures.stopped _ history)
    (c.in_ok-numbers.ensures.left _) c.in_ok-numbers.ensures.same

pub invariant_of-self-2 : goal.invariant_of-self-2
invariant_of-self-2 g c kept =
    let alive = c.self.invariant (ap (λ l. l.lost) c.self.view_is ∙ c.requires) in
    let halted = life-halted _ _ (g.T.Turn.outcomes c.args.turn.now c.args.now) c.args.stop.now alive.history alive.held
    c.in_ok-left.left c.replace.new.dest c.load_numbers.new.disk c.in_ok-numbers.numbers.version
    c.in_ok-numbers.numbers.sealed _ refl alive.lives c.replace.ensures.after
    (c.in_ok-left.ensures.stopped _ alive.history)
    (c.in_ok-numbers.ensures.left _) c.in_ok-numbers.ensures.same in
    record { history = halted.later; held = alive.held; lives = halted.lives }
