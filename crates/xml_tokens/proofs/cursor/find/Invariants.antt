use Rattle.std.proofs.Common.{◌≡◌, ℕ, ◌<◌, false, drop}
use Rattle.xml_tokens.specs.Characters.{begins}
use Rattle.xml_tokens.proofs.cursor.find.Given as goal

abbrev pub invariant-loop-at : goal.invariant-loop-at
invariant-loop-at l = (k : ℕ) → k < l.at → begins l.pattern (drop k l.text) ≡ false
