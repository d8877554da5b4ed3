use Rattle.std.proofs.Common.{◌≡◌, false}
use Rattle.feed_recovery.specs.Store.{StandsFor, is_spent}
use Rattle.store_tests.proofs.grown.documents.Given as goal

abbrev pub invariant-loop-before : goal.invariant-loop-before
invariant-loop-before g l = record {
  unspent : is_spent l.store ≡ false;
  stands : g.D.Disk.observable → StandsFor (g.D.Disk.state l.disk) l.store;
}

abbrev pub invariant-loop-before-2 : goal.invariant-loop-before-2
invariant-loop-before-2 g l = record {
  unspent : is_spent l.store ≡ false;
  stands : g.D.Disk.observable → StandsFor (g.D.Disk.state l.disk) l.store;
}
