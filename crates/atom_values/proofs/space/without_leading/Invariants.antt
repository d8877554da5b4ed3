use Rattle.std.proofs.Common.{◌≡◌, length}
use Rattle.atom_values.specs.Space.{without_leading}
use Rattle.atom_values.proofs.space.without_leading.Given as goal

abbrev pub invariant-loop-byte : goal.invariant-loop-byte
invariant-loop-byte l = without_leading l.rest ≡ without_leading l.fn.text

abbrev pub decreases-loop-byte : goal.decreases-loop-byte
decreases-loop-byte l = length l.rest
