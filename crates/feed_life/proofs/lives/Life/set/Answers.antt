use Rattle.std.proofs.Common.{List, Option, None, OnOk, sym, subst}
use Rattle.feed_life.specs.Events.{IsStep}
use Rattle.feed_life.specs.Life.{Lives}
use Rattle.feed_life.specs.declared.event.Event.TheVariants.{Set}
use Rattle.feed_life.specs.declared.event.Stop.{Stop}
use Rattle.feed_life.proofs.StepLemmas.{both-ok, set-halted, set-stepped}
use Rattle.feed_life.proofs.lives.Life.set.Goals as goal
use Rattle.member_rules.specs.declared.operation.Op.{Op}
use Rattle.mirror_walk.specs.Holding.{KeptValue}

pub returns-in-None-clause-stepped : goal.returns-in-None-clause-stepped
returns-in-None-clause-stepped c =
    subst (λ (stop : Option Stop). OnOk c.change.result ((history : List Op) (held : List (List KeptValue))
    → Lives c.args.self.now history held → IsStep c.args.self.now c.change.new.self
    (Set c.args.setting.now c.args.now stop) history held None)) (sym c.in-None.is)
    (both-ok c.change.result (λ is_set stays history held lives.
    set-stepped c.args.self.now c.change.new.self c.args.setting.now c.args.now history held
    (is_set history held lives) stays) c.change.ensures.is_set c.change.ensures.stays)

pub returns-in-Some-clause-stepped : goal.returns-in-Some-clause-stepped
returns-in-Some-clause-stepped c =
    subst (λ (stop : Option Stop). OnOk c.answer_into.result ((history : List Op) (held : List (List KeptValue))
    → Lives c.args.self.now history held → IsStep c.args.self.now c.answer_into.new.self
    (Set c.args.setting.now c.args.now stop) history held None)) (sym c.in-Some.is)
    (both-ok c.answer_into.result (λ halted stays history held lives.
    set-halted c.args.self.now c.answer_into.new.self c.args.setting.now c.args.now c.in-Some.stop history held
    (halted history held lives) stays) c.answer_into.ensures.halted c.answer_into.ensures.stays)
