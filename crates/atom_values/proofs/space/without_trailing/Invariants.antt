use Rattle.std.proofs.Common.{◌≡◌, reverse, length}
use Rattle.atom_values.specs.Space.{without_leading}
use Rattle.atom_values.proofs.space.without_trailing.Given as goal

abbrev pub invariant-loop-byte : goal.invariant-loop-byte
invariant-loop-byte l = reverse (without_leading (reverse l.rest)) ≡ reverse (without_leading (reverse l.fn.text))

abbrev pub decreases-loop-byte : goal.decreases-loop-byte
decreases-loop-byte l = length l.rest
