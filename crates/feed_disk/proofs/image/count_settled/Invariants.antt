use Rattle.std.proofs.Common.{◌≡◌, ◌≤◌, ◌++◌, length, take, drop}
use Rattle.std.specs.Prelude.{reverse}
use Rattle.feed_disk.specs.Pending.{pending_of, settled_of}
use Rattle.feed_disk.proofs.image.count_settled.Given as goal

abbrev pub invariant-loop-count : goal.invariant-loop-count
invariant-loop-count l = record {
  within : l.count ≤ length l.changes;
  settled : settled_of (reverse (take l.count l.changes)) ≡ settled_of (reverse l.changes);
  pending : reverse (drop l.count l.changes) ++ pending_of (reverse (take l.count l.changes))
      ≡ pending_of (reverse l.changes);
}

abbrev pub decreases-loop-count : goal.decreases-loop-count
decreases-loop-count l = l.count
