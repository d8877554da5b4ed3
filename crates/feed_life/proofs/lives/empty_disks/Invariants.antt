use Rattle.std.proofs.Common.{◌≡◌, length}
use Rattle.std.specs.Prelude.{All}
use Rattle.feed_life.specs.Life.{empty_disk}
use Rattle.feed_life.proofs.lives.empty_disks.Given as goal

abbrev pub invariant-loop-index : goal.invariant-loop-index
invariant-loop-index l = record {
  count : length l.disks.items ≡ l._index;
  empty : All (λ disk. disk ≡ empty_disk) l.disks.items;
}
