-- The loop that fills an area, after one more byte.
use Rattle.std.proofs.Common.{◌≡◌, ℕ, ◌+◌, ◌<◌, Bool, true, false, List, [], ◌∷◌, ◌++◌, length, get_or, drop, sym, ◌∙◌}
use Rattle.std.proofs.Common.{ap, arith}
use Rattle.std.proofs.lemmas.List.{drop_more, append_assoc}
use Rattle.feed_disk.specs.ImageOf.{filled}

module _ (marks : List Bool) (fill : ℕ) (bytes : List ℕ) (offset : ℕ) (within : offset < length bytes)
    (same : length marks ≡ length bytes) where
  split : (mark : Bool) → get_or marks offset mark ≡ mark
      → filled (drop offset marks) fill (drop offset bytes)
      ≡ filled (mark ∷ drop (offset + 1) marks) fill (get_or bytes offset 0 ∷ drop (offset + 1) bytes)
  split mark is =
      ap (λ (l : List Bool). filled l fill (drop offset bytes))
      (drop_more marks offset mark (omega arith) ∙ ap (λ (b : Bool). b ∷ drop (offset + 1) marks) is)
      ∙ ap (λ (l : List ℕ). filled (mark ∷ drop (offset + 1) marks) fill l) (drop_more bytes offset 0 within)

  pub filled_marked : (made all : List ℕ) → get_or marks offset true ≡ true
      → made ++ filled (drop offset marks) fill (drop offset bytes) ≡ all
      → (made ++ fill ∷ []) ++ filled (drop (offset + 1) marks) fill (drop (offset + 1) bytes) ≡ all
  filled_marked made all is so_far =
      append_assoc made (fill ∷ []) (filled (drop (offset + 1) marks) fill (drop (offset + 1) bytes))
      ∙ ap (λ (l : List ℕ). made ++ l) (sym (split true is)) ∙ so_far

  pub filled_plain : (made all : List ℕ) → get_or marks offset false ≡ false
      → made ++ filled (drop offset marks) fill (drop offset bytes) ≡ all
      → (made ++ get_or bytes offset 0 ∷ []) ++ filled (drop (offset + 1) marks) fill (drop (offset + 1) bytes) ≡ all
  filled_plain made all is so_far =
      append_assoc made (get_or bytes offset 0 ∷ []) (filled (drop (offset + 1) marks) fill (drop (offset + 1) bytes))
      ∙ ap (λ (l : List ℕ). made ++ l) (sym (split false is)) ∙ so_far
