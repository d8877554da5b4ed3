use Rattle.std.proofs.Common.{◌≡◌, take}
use Rattle.std.specs.Prelude.{reverse}
use Rattle.feed_disk.specs.AreaRecord.{content_of}
use Rattle.feed_disk.proofs.image.content_after.Given as goal

abbrev pub invariant-loop-change : goal.invariant-loop-change
invariant-loop-change l = l.bytes.items ≡ content_of l.first (reverse (take l.change-index l.changes))
