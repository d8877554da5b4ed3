use Rattle.std.proofs.Common.{◌≡◌, ◌++◌, drop}
use Rattle.feed_disk.specs.ImageOf.{filled}
use Rattle.feed_disk.proofs.image.fill.Given as goal

abbrev pub invariant-loop-offset : goal.invariant-loop-offset
invariant-loop-offset l = l.made.items ++ filled (drop l.offset l.marks) l.byte (drop l.offset l.bytes)
    ≡ filled l.marks l.byte l.bytes
