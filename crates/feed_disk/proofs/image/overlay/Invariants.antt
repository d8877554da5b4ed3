use Rattle.std.proofs.Common.{◌≡◌, ◌≤◌, ◌++◌, take, drop}
use Rattle.std.specs.Prelude.{count_by}
use Rattle.feed_disk.specs.ImageOf.{overlaid}
use Rattle.feed_disk.proofs.image.overlay.Given as goal

abbrev pub invariant-loop-offset : goal.invariant-loop-offset
invariant-loop-offset l = record {
  bytes : l.made.items ++ overlaid (drop l.offset l.marks) (drop l.used l.given) (drop l.offset l.bytes)
      ≡ overlaid l.marks l.given l.bytes;
  used : l.used ≡ count_by (λ mark. mark) (take l.offset l.marks);
  within : l.used ≤ l.offset;
}
