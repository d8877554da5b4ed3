use Rattle.std.proofs.Common.{◌≡◌, ◌++◌, List, ℕ, IsTrue, length, not, ◌==◌, ◌||◌}
use Rattle.std.specs.List.{list_all}
use Rattle.xml_tokens.proofs.PlainLemmas.{Plain}
use Rattle.xml_tokens.proofs.cursor.Cursor.value.Given as goal

abbrev pub invariant-loop-inside : goal.invariant-loop-inside
invariant-loop-inside l = record {
  read : (front : List ℕ) × (l.written ≡ front ++ l.inside.rest.now) × Plain l.fn.quote front;
  free : IsTrue (list_all (λ b. not ((b == l.fn.quote) || (b == 60))) l.inside.rest.now);
}

abbrev pub decreases-loop-inside : goal.decreases-loop-inside
decreases-loop-inside l = length l.inside.rest.now
