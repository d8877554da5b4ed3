use Rattle.std.proofs.Common.{◌≡◌, false}
use Rattle.mirror_walk.specs.Mirror.{StandsFor, is_spent}
use Rattle.mirror_tests.proofs.orders.expect_order.Given as goal

abbrev pub invariant-loop-index : goal.invariant-loop-index
invariant-loop-index g l =
    is_spent l.mirror ≡ false → g.D.Disk.observable → StandsFor (g.D.Disk.state l.disk) l.mirror
