use Rattle.std.proofs.Common.{◌≡◌, ◌+◌, ◌≤◌, length}
use Rattle.xml_tokens.specs.Characters.{allowed_length}
use Rattle.xml_tokens.proofs.characters.allowed_length.Given as goal

abbrev pub invariant-loop-at : goal.invariant-loop-at
invariant-loop-at l =
    (length l.rest ≤ length l.text)
    × (allowed_length l.text + length l.rest ≡ length l.text + allowed_length l.rest)

abbrev pub decreases-loop-at : goal.decreases-loop-at
decreases-loop-at l = length l.rest
