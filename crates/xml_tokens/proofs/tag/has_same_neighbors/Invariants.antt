use Rattle.std.proofs.Common.{◌≡◌, ℕ, ◌+◌, ◌<◌, false}
use Rattle.std.specs.Prelude.{slice_index_or}
use Rattle.std.specs.Ordering.{is_eq}
use Rattle.xml_tokens.specs.Keys.{Key, key_cmp}
use Rattle.xml_tokens.proofs.tag.has_same_neighbors.Given as goal

abbrev pub invariant-loop-next : goal.invariant-loop-next
invariant-loop-next l =
    (k : ℕ) (d : Key) → k + 1 < l.next
    → is_eq (key_cmp (slice_index_or l.keys k d) (slice_index_or l.keys (k + 1) d)) ≡ false
