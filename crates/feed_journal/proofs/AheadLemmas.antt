-- The bytes of a read that were read ahead.
use Rattle.std.proofs.Common.{◌≡◌, ℕ, ◌+◌, ◌-◌, ◌≤◌, min, List, length, take, drop, sym, ◌∙◌, ap, arith}
use Rattle.std.proofs.Common.{length-take, length-drop}
use Rattle.std.proofs.lemmas.List.{drop-take, take-take, drop-drop}
use Rattle.feed_journal.specs.Ahead.{IsAhead, HasAhead}

-- the first `len` bytes of the buffer were read ahead, and have all of the n bytes from offset `at` on
module _ (buffer content : List ℕ) (from len at n : ℕ)
    (is : IsAhead (record { from = from; bytes = take len buffer }) content)
    (has : HasAhead (record { from = from; bytes = take len buffer }) at n) where
  abbrev part : List ℕ
  part = take (len - (at - from)) (drop (at - from) buffer)

  sizes : (length (take len buffer) ≤ length content - from) × (length (take len buffer) ≡ min len (length buffer))
  sizes = (
    omega (
      arith,
      ap length is,
      length-take (length (take len buffer)) (drop from content),
      length-drop from content,
    ),
    length-take len buffer,
  )

  -- they are as many as a read of the content gives
  pub ahead_count : min n (length part) ≡ min n (length content - at)
  ahead_count = omega (
    arith,
    sizes,
    has.begins,
    has.ends,
    length-take (len - (at - from)) (drop (at - from) buffer),
    length-drop (at - from) buffer,
  )

  pub ahead_bytes : (k : ℕ) → k ≤ n → take k part ≡ take k (drop at content)
  ahead_bytes k most =
      let skip = at - from in
      let rest = length (take len buffer) - skip in
      let behind : len ≡ skip + (len - skip) = omega (arith, sizes, has.begins, has.ends) in
      let sum : length (take len buffer) ≡ skip + rest = omega (arith, has.begins, has.ends) in
      let place : from + skip ≡ at = omega (arith, has.begins) in
      ap (take k) (sym (drop-take skip (len - skip) buffer)
      ∙ ap (λ (m : ℕ). drop skip (take m buffer)) (sym behind)
      ∙ ap (drop skip) (is ∙ ap (λ (m : ℕ). take m (drop from content)) sum)
      ∙ drop-take skip rest (drop from content))
      ∙ take-take k rest (drop skip (drop from content)) (omega (arith, has.begins, has.ends))
      ∙ ap (take k) (drop-drop skip from content ∙ ap (λ (m : ℕ). drop m content) place)
