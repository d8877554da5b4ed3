use Rattle.std.specs.Prelude.{Contains, IfSome}
use Rattle.order_tests.proofs.changes.walked.Given as goal

abbrev pub invariant-walk : goal.invariant-walk
invariant-walk g l = IfSome l.next (Contains l.order.list)
