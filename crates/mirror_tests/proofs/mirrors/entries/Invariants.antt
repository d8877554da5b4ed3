use Rattle.std.proofs.Common.{◌≡◌, false, IsTrue}
use Rattle.mirror_walk.specs.Mirror.{StandsFor, is_spent}
use Rattle.mirror_tests.proofs.mirrors.entries.Given as goal

abbrev pub invariant-loop : goal.invariant-loop
invariant-loop g l = record {
  unspent : is_spent l.mirror ≡ false;
  listed : IsTrue l.mirror.listed;
  stands : g.D.Disk.observable → StandsFor (g.D.Disk.state l.disk) l.mirror;
}
