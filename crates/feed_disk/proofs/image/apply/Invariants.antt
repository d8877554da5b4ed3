use Rattle.std.proofs.Common.{◌≡◌, length, take}
use Rattle.std.specs.Prelude.{reverse}
use Rattle.feed_disk.specs.Pending.{applied, marked_by}
use Rattle.feed_disk.proofs.image.apply.Given as goal

abbrev pub invariant-loop-change : goal.invariant-loop-change
invariant-loop-change l = record {
  bytes : l.bytes.items ≡ applied l.fn.bytes.items (reverse (take l.change-index l.changes));
  marks : l.marks.items ≡ marked_by l.fn.marks.items (reverse (take l.change-index l.changes));
  same_size : length l.marks.items ≡ length l.bytes.items;
}
