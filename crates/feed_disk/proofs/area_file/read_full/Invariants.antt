use Rattle.std.proofs.Common.{◌≡◌, ◌≤◌, length}
use Rattle.feed_disk.proofs.area_file.read_full.Given as goal

abbrev pub invariant-loop : goal.invariant-loop
invariant-loop l = (l.count ≤ length l.into) × (length l.into ≡ length l.fn.into)
