use Rattle.std.proofs.Common.{◌≡◌, ℕ, List, ◌≤◌, ◌++◌, All, length}
use Rattle.atom_writer.specs.Pieces.{joined}
use Rattle.atom_grammar.specs.Cutting.{IsCut}
use Rattle.atom_grammar.proofs.PlaceLemmas.{HasLeft}
use Rattle.atom_grammar.proofs.places.after_pieces.Given as goal

abbrev pub invariant-loop-left : goal.invariant-loop-left
invariant-loop-left l =
    (l.at ≤ length l.written)
    × ((pieces : List (List ℕ)) (rest : List ℕ) → All IsCut pieces → length pieces ≡ l.count
    → l.written ≡ joined pieces ++ rest → HasLeft l.written l.at l.left rest)

abbrev pub decreases-loop-left : goal.decreases-loop-left
decreases-loop-left l = l.left
