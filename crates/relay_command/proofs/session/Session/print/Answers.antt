use Rattle.std.proofs.Common.{ap, sym, ◌∙◌, ◌++◌, arith, subst, flat_map, take, List}
use Rattle.std.proofs.lemmas.Result.{on_ok_weaker}
use Rattle.doc_source.specs.Outside.{TakesPrefix}
use Rattle.relay_command.proofs.EndLemmas.{end-prefix, line-prefix, text-whole, text_of}
use Rattle.relay_command.specs.Relay.{session_text}
use Rattle.relay_command.specs.declared.session.Served.{Served}
use Rattle.relay_command.proofs.session.Session.print.Goals as goal

pub returns-in_err-write_all-clause-prefix : goal.returns-in_err-write_all-clause-prefix
returns-in_err-write_all-clause-prefix g c = λ observable.
    let before = g.O.Sink.state c.args.output.now in
    let same = c.as_slice-line-items.ensures.items in
    let end = c.args.self.now.end in
    let index = c.loop-line.line-index in
    subst (λ (lines : List Served). TakesPrefix before (g.O.Sink.state c.write_all.new.sink) (session_text lines end)) same
    (line-prefix before (g.O.Sink.state c.loop-line.output) _ c.as_slice-line-items.result.now index _ end
    c.as_bytes.result.now c.loop-line-test.true
    (c.as_bytes.ensures.value ∙ c.as_str.ensures.value ∙ c.connection_line-text.ensures)
    (c.loop-line.invariant.taken observable
    ∙ ap (λ (lines : List Served). before.taken ++ flat_map text_of (take index lines)) (sym same))
    (c.write_all.ensures.prefix observable))

pub returns-clause-prefix : goal.returns-clause-prefix
returns-clause-prefix g c = λ observable.
    let before = g.O.Sink.state c.args.output.now in
    let same = c.as_slice-line-items.ensures.items in
    let end = c.args.self.now.end in
    let index = c.loop-line.line-index in
    subst (λ (lines : List Served). TakesPrefix before (g.O.Sink.state c.print.new.output) (session_text lines end)) same
    (end-prefix before (g.O.Sink.state c.loop-line.output) _ c.as_slice-line-items.result.now index end (omega arith)
    (c.loop-line.invariant.taken observable
    ∙ ap (λ (lines : List Served). before.taken ++ flat_map text_of (take index lines)) (sym same))
    (c.print.ensures.prefix observable))

pub returns-clause-whole : goal.returns-clause-whole
returns-clause-whole g c =
    let before = g.O.Sink.state c.args.output.now in
    let same = c.as_slice-line-items.ensures.items in
    let end = c.args.self.now.end in
    let index = c.loop-line.line-index in
    on_ok_weaker c.print.result
    (λ whole observable.
    text-whole before (g.O.Sink.state c.loop-line.output) (g.O.Sink.state c.print.new.output) c.as_slice-line-items.result.now index end (omega arith)
    (c.loop-line.invariant.taken observable
    ∙ ap (λ (lines : List Served). before.taken ++ flat_map text_of (take index lines)) (sym same))
    (whole observable)
    ∙ ap (λ (lines : List Served). before.taken ++ session_text lines end) same)
    c.print.ensures.whole
