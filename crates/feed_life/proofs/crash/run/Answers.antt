use Rattle.std.proofs.Common.{sym, ◌∙◌, arith}
use Rattle.feed_life.proofs.StoppedLemmas.{turn-runs}
use Rattle.feed_life.proofs.crash.run.Goals as goal

pub returns-clause-runs : goal.returns-clause-runs
returns-clause-runs g c head history before opened =
    turn-runs head (g.T.Turn.outcomes c.args.turn.now c.args.now) history before c.args.disk.now c.make.new.disk
    c.args.store.now c.make.new.store c.in_ok-reply.reply opened c.in_ok-reply.ensures.steps.head _
    c.in_ok-reply.ensures.answered c.if-status-eq-NO_MEMORY.false (sym c.is_spent.ensures ∙ c.if-is_spent.false)
    c.in_ok-reply.ensures.steps.spent (λ other. c.in_ok-reply.ensures.steps.stands other tt)
    c.in_ok-reply.ensures.settled (λ other. c.in_ok-reply.ensures.steps.rests other tt)
    c.in_ok-reply.ensures.leaves c.in_ok-reply.ensures.steps.calls c.in_ok-reply.ensures.either
    (omega (arith, c.calls-begun.ensures, c.if-begun.false))
