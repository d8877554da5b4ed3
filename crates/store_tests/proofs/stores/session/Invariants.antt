use Rattle.std.proofs.Common.{◌≡◌, false}
use Rattle.feed_recovery.specs.Store.{StandsFor, is_spent}
use Rattle.store_tests.proofs.stores.session.Given as goal

abbrev pub invariant-loop-index : goal.invariant-loop-index
invariant-loop-index g l = record {
  unspent : is_spent l.store ≡ false;
  stands : g.D.Disk.observable → StandsFor (g.D.Disk.state l.disk) l.store;
}
