use Rattle.std.proofs.Common.{◌≡◌, ◌++◌, length}
use Rattle.atom_values.specs.Escape.{escaped}
use Rattle.atom_values.proofs.text.unescape.Given as goal

abbrev pub invariant-loop-bytes : goal.invariant-loop-bytes
invariant-loop-bytes l = escaped l.quoted l.bytes.items ++ l.rest ≡ l.written

abbrev pub decreases-loop-bytes : goal.decreases-loop-bytes
decreases-loop-bytes l = length l.rest
