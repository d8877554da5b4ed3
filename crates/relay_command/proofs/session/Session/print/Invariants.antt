use Rattle.std.proofs.Common.{◌≡◌, ◌++◌, take, flat_map}
use Rattle.relay_command.proofs.EndLemmas.{text_of}
use Rattle.relay_command.proofs.session.Session.print.Given as goal

abbrev pub invariant-loop-line : goal.invariant-loop-line
invariant-loop-line g l =
    let before = g.O.Sink.state l.fn.output in
    let output = g.O.Sink.state l.output in
    record {
      taken : g.O.Sink.observable
          → output.taken ≡ before.taken ++ flat_map text_of (take l.line-index l.self.lines.items);
      faults : output.faults ≡ before.faults;
    }
