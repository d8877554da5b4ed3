use Rattle.std.proofs.Common.{◌≤◌, length}
use Rattle.xml_tokens.specs.Characters.{IsCleanBefore}
use Rattle.xml_tokens.proofs.characters.without_clean_blocks.Given as goal

abbrev pub invariant-loop-block : goal.invariant-loop-block
invariant-loop-block l = IsCleanBefore l.text l.rest × (length l.rest ≤ length l.text)

abbrev pub decreases-loop-block : goal.decreases-loop-block
decreases-loop-block l = length l.rest
