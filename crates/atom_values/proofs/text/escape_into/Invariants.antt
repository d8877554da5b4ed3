use Rattle.std.proofs.Common.{◌+◌, ◌≤◌, length, vec_capacity}
use Rattle.atom_values.specs.Escape.{escaped}
use Rattle.atom_values.proofs.EscapeLemmas.{IsWritten}
use Rattle.atom_values.proofs.text.escape_into.Given as goal

abbrev pub invariant-loop-at : goal.invariant-loop-at
invariant-loop-at l = record {
  within : l.copied ≤ l.at;
  written : IsWritten l.quoted l.fn.out.items l.out.items l.bytes l.copied l.at;
  room : length l.fn.out.items + length (escaped l.quoted l.bytes) ≤ vec_capacity l.out;
}
