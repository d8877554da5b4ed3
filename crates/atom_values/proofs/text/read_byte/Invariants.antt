use Rattle.std.proofs.Common.{ℕ, ◌<◌, get_or}
use Rattle.atom_values.specs.Escape.{IsNotWritten}
use Rattle.atom_values.proofs.text.read_byte.Given as goal

abbrev pub invariant-loop-byte : goal.invariant-loop-byte
invariant-loop-byte l = (k : ℕ) → k < l.byte-index → IsNotWritten l.quoted l.written (get_or l.byte-items k 0)
