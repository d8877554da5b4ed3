use Rattle.std.proofs.Common.{Option, None, Some, sym, subst}
use Rattle.feed_life.specs.Events.{IsStep}
use Rattle.feed_life.specs.declared.event.Event.TheVariants.{Ask}
use Rattle.feed_life.specs.declared.event.Stop.{Stop}
use Rattle.feed_life.proofs.StepLemmas.{ask-stepped, halt-stepped}
use Rattle.feed_life.proofs.lives.Life.ask.Goals as goal

pub returns-in_ok-line-in-None-clause-stepped : goal.returns-in_ok-line-in-None-clause-stepped
returns-in_ok-line-in-None-clause-stepped c history held lives =
    subst (λ (stop : Option Stop). IsStep c.args.self.now c.answer.new.self
    (Ask c.args.request.now c.args.now stop) history held (Some c.in_ok-line-in-None.line)) (sym c.in-None.is)
    (ask-stepped c.args.self.now c.answer.new.self c.args.request.now c.args.now history held
    c.in_ok-line-in-None.line (c.in_ok-line-in-None.ensures.asked history held lives)
    c.in_ok-line-in-None.ensures.stays)

pub returns-in_ok-answer_into-in-Some-clause-stepped : goal.returns-in_ok-answer_into-in-Some-clause-stepped
returns-in_ok-answer_into-in-Some-clause-stepped c history held lives =
    subst (λ (stop : Option Stop). IsStep c.args.self.now c.answer_into.new.self
    (Ask c.args.request.now c.args.now stop) history held None) (sym c.in-Some.is)
    (halt-stepped c.args.self.now c.answer_into.new.self c.args.request.now c.args.now c.in-Some.stop history held
    (c.in_ok-answer_into-in-Some.ensures.halted history held lives) c.in_ok-answer_into-in-Some.ensures.stays)
