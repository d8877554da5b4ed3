use Rattle.std.proofs.Common.{ap, refl, ◌∙◌}
use Rattle.feed_life.proofs.AskedLemmas.{life-asked}
use Rattle.feed_life.proofs.lives.Life.answer.Goals as goal

pub returns-clause-asked : goal.returns-clause-asked
returns-clause-asked c history held lives =
    life-asked _ c.args.self.now c.args.request.now c.args.now history held c.ask.new.disk
    c.in_ok-answered.answered.reply c.in_ok-answered.answered.line c.in_ok-answered.answered.sealed c.in_ok-found.found
    c.keep.new.sent.items c.self.view_is lives (c.in_ok-answered.ensures.answered _ history) c.in_ok-found.ensures
    c.in_ok-keep.ensures c.in_ok-answered.ensures.calls

pub invariant_of-self-2 : goal.invariant_of-self-2
invariant_of-self-2 c kept =
    let alive = c.self.invariant (ap (λ l. l.lost) c.self.view_is ∙ c.requires) in
    let asked = life-asked _ _ c.args.request.now c.args.now alive.history alive.held c.ask.new.disk
    c.in_ok-answered.answered.reply c.in_ok-answered.answered.line c.in_ok-answered.answered.sealed
    c.in_ok-found.found c.keep.new.sent.items refl alive.lives (c.in_ok-answered.ensures.answered _ alive.history)
    c.in_ok-found.ensures c.in_ok-keep.ensures c.in_ok-answered.ensures.calls in
    record { history = asked.later; held = alive.held; lives = asked.lives }
