use Rattle.std.proofs.Common.{◌≡◌, false}
use Rattle.mirror_walk.specs.Mirror.{StandsFor, is_spent}
use Rattle.mirror_tests.proofs.courses.run_part.Given as goal

abbrev pub invariant-loop-act : goal.invariant-loop-act
invariant-loop-act g l =
    is_spent l.mirror ≡ false → g.D.Disk.observable → StandsFor (g.D.Disk.state l.disk) l.mirror
