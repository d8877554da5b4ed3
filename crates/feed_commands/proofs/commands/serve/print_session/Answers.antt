use Rattle.std.proofs.Common.{ap, sym, ◌∙◌, arith}
use Rattle.feed_commands.specs.Serve.{fault_text}
use Rattle.feed_commands.proofs.ServeLemmas.{fault-prefix, line-prefix}
use Rattle.feed_commands.proofs.commands.serve.print_session.Goals as goal

pub returns-in_err-write_all-clause-prefix : goal.returns-in_err-write_all-clause-prefix
returns-in_err-write_all-clause-prefix g c = λ observable.
    line-prefix _ (g.O.Sink.state c.loop-line.output) _ c.args.lines.now c.loop-line.line-index _ c.args.fault
    c.as_bytes.result.now c.loop-line-test.true
    (c.as_bytes.ensures.value ∙ c.as_str.ensures.value ∙ c.line_of_session.ensures)
    (c.loop-line.invariant.taken observable) (c.write_all.ensures.prefix observable)

pub returns-in-Some-clause-prefix : goal.returns-in-Some-clause-prefix
returns-in-Some-clause-prefix g c = λ observable.
    fault-prefix _ (g.O.Sink.state c.loop-line.output) _ c.args.lines.now c.loop-line.line-index c.args.fault
    c.as_bytes-in-Some.result.now (omega arith)
    (c.as_bytes-in-Some.ensures.value ∙ c.as_str-in-Some.ensures.value ∙ c.line.ensures
    ∙ ap fault_text (sym c.in-Some.is))
    (c.loop-line.invariant.taken observable) (c.write_all-in-Some.ensures.prefix observable)
