use Rattle.std.specs.Prelude.{◌≤◌}
use Rattle.order_tests.proofs.orders.list_after.Given as goal

abbrev pub invariant-loop-made : goal.invariant-loop-made
invariant-loop-made g l = 6 ≤ l.order.slots
