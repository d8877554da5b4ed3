use Rattle.std.proofs.Common.{inl, inr, ⊎_elim}
use Rattle.feed_commands.proofs.DrillEndLemmas.{drill-ends, ends-drilling, not-alone}
use Rattle.feed_commands.proofs.commands.drill.drill.Goals as goal

pub returns-in-Ok-clause-answered : goal.returns-in-Ok-clause-answered
returns-in-Ok-clause-answered g c = λ answered outside.
    drill-ends c.args.seed c.args.count outside g.O.Sink.observable (g.O.Sink.state c.args.output.now)
    (g.O.Sink.state c.end_drilled.new.output) c.end_drilled.result.status c.in-Ok.text.items
    c.in-Ok.ensures.text
    (⊎_elim (λ e. inl e.0) (λ e. inr e.0) c.end_drilled.ensures.ends)
    (rw (← c.as_slice.ensures.value) c.end_drilled.ensures.prints)
    (rw (← c.as_slice.ensures.value) c.end_drilled.ensures.whole)

pub returns-in-Ok-clause-drills : goal.returns-in-Ok-clause-drills
returns-in-Ok-clause-drills g c =
    ends-drilling c.args.seed c.args.count c.in-Ok.life c.end_drilled.result.life c.end_drilled.result.status
    c.in-Ok.ensures.life c.end_drilled.ensures.ends

pub returns-in-Ok-clause-alone : goal.returns-in-Ok-clause-alone
returns-in-Ok-clause-alone g c = λ sink alone.
    absurd (not-alone c.end_drilled.result.status (⊎_elim (λ e. inl e.0) (λ e. inr e.0) c.end_drilled.ensures.ends)
    alone)
