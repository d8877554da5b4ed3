use Rattle.std.proofs.Common.{◌≡◌, ◌≤◌, ◌*◌, length, take}
use Rattle.atom_values.specs.Escape.{escaped}
use Rattle.atom_values.proofs.text.escaped_len.Given as goal

abbrev pub invariant-loop-byte : goal.invariant-loop-byte
invariant-loop-byte l = record {
  sum : l.total ≡ length (escaped l.quoted (take l.byte-index l.byte-items));
  bound : l.total ≤ 6 * l.byte-index;
}
