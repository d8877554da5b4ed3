use Rattle.std.proofs.Common.{◌≡◌, false}
use Rattle.feed_recovery.specs.Store.{StandsFor, is_spent}
use Rattle.member_rules.specs.Table.{IsTableOf}
use Rattle.store_tests.proofs.grown.grown.Given as goal

abbrev pub invariant-loop : goal.invariant-loop
invariant-loop g l = record {
  unspent : is_spent l.store ≡ false;
  stands : g.D.Disk.observable → StandsFor (g.D.Disk.state l.disk) l.store;
  table : IsTableOf l.feed.members l.feed.head.created l.feed.history.items;
}
