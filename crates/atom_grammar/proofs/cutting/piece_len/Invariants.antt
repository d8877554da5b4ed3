use Rattle.std.proofs.Common.{◌≤◌, ◌-◌, length, take}
use Rattle.atom_grammar.specs.Cutting.{IsUnfinished}
use Rattle.atom_grammar.proofs.cutting.piece_len.Given as goal

abbrev pub invariant-loop-at : goal.invariant-loop-at
invariant-loop-at l = (l.len ≤ length l.text) × IsUnfinished (take l.len l.text)

abbrev pub decreases-loop-at : goal.decreases-loop-at
decreases-loop-at l = length l.text - l.len
