use Rattle.std.proofs.Common.{◌≡◌}
use Rattle.system_edge.proofs.system.OutputSinkSink.write.Given as goal

abbrev pub invariant-loop : goal.invariant-loop
invariant-loop g l = l.self.faults ≡ l.fn.self.faults
