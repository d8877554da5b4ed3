use Rattle.std.proofs.Common.{◌≡◌, ◌++◌, take, flat_map}
use Rattle.feed_commands.specs.Serve.{session_line}
use Rattle.feed_commands.proofs.commands.serve.print_session.Given as goal

abbrev pub invariant-loop-line : goal.invariant-loop-line
invariant-loop-line g l =
    let before = g.O.Sink.state l.fn.output in
    let output = g.O.Sink.state l.output in
    record {
      taken : g.O.Sink.observable
          → output.taken ≡ before.taken ++ flat_map session_line (take l.line-index l.lines);
      faults : output.faults ≡ before.faults;
    }
