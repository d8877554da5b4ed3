use Rattle.std.proofs.Common.{◌≡◌, ◌++◌, take}
use Rattle.coverage_certificate.proofs.PrintLemmas.{documents_text}
use Rattle.coverage_certificate.proofs.print.print_documents.Given as goal

abbrev pub invariant-loop-line : goal.invariant-loop-line
invariant-loop-line g l = record {
  taken : g.K.Sink.observable → (g.K.Sink.state l.sink).taken
      ≡ (g.K.Sink.state l.fn.sink).taken ++ documents_text l.base (take l.line-index l.lines);
  faults : (g.K.Sink.state l.sink).faults ≡ (g.K.Sink.state l.fn.sink).faults;
}
