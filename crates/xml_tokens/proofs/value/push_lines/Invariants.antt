use Rattle.std.proofs.Common.{◌≡◌, ◌++◌, length}
use Rattle.xml_tokens.specs.Characters.{lines}
use Rattle.xml_tokens.proofs.value.push_lines.Given as goal

abbrev pub invariant-loop-at : goal.invariant-loop-at
invariant-loop-at l = l.out.items ++ lines l.rest ≡ l.fn.out.items ++ lines l.fn.written

abbrev pub decreases-loop-at : goal.decreases-loop-at
decreases-loop-at l = length l.rest
