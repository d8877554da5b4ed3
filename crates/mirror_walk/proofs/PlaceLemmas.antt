-- The offsets of the items' pieces in the text of a document.
use Rattle.std.proofs.Common.{◌≡◌, ◌≤◌, ◌<◌, ℕ, zero, suc, List, [], ◌∷◌, Option, Some, None, length, get_or}
use Rattle.std.proofs.Common.{refl, ap, sym, arith}
use Rattle.std.specs.Prelude.{IfSome, slice_get}
use Rattle.atom_grammar.specs.Places.{AreItemOffsets, HasPiece, place_between}
use Rattle.atom_writer.specs.declared.doc.FeedName.{FeedName}
use Rattle.deleted_entries.specs.declared.item.Item.{Item}

-- each item has an offset, and so has the end
pub offsets-count : (written : List ℕ) (name : FeedName) (items : List Item) (offsets : List ℕ)
    → AreItemOffsets written name items offsets → length offsets ≡ suc (length items)
offsets-count written name [] [] are = absurd are
offsets-count written name [] (end ∷ []) are = refl
offsets-count written name [] (end ∷ next ∷ offsets) are = absurd are
offsets-count written name (item ∷ items) [] are = absurd are
offsets-count written name (item ∷ items) (at ∷ []) are = absurd are
offsets-count written name (item ∷ items) (at ∷ next ∷ offsets) are =
    ap (λ n. suc n) (offsets-count written name items (next ∷ offsets) are.2)

-- an offset isn't after the next one
pub offsets-rise : (written : List ℕ) (name : FeedName) (items : List Item) (offsets : List ℕ)
    → AreItemOffsets written name items offsets → (index : ℕ) → index < length items
    → get_or offsets index 0 ≤ get_or offsets (suc index) 0
offsets-rise written name [] offsets are index below = absurd (omega (arith, below))
offsets-rise written name (item ∷ items) [] are index below = absurd are
offsets-rise written name (item ∷ items) (at ∷ []) are index below = absurd are
offsets-rise written name (item ∷ items) (at ∷ next ∷ offsets) are zero below = are.0
offsets-rise written name (item ∷ items) (at ∷ next ∷ offsets) are (suc index) below =
    offsets-rise written name items (next ∷ offsets) are.2 index (omega (arith, below))

-- the piece of the item with this index
piece-at : (written : List ℕ) (name : FeedName) (items : List Item) (offsets : List ℕ)
    → AreItemOffsets written name items offsets → (index : ℕ) (item : Item) → slice_get items index ≡ Some item
    → HasPiece written name item (place_between (get_or offsets index 0) (get_or offsets (suc index) 0))
piece-at written name [] offsets are index item there = absurd cc
piece-at written name (i ∷ items) [] are index item there = absurd are
piece-at written name (i ∷ items) (at ∷ []) are index item there = absurd are
piece-at written name (i ∷ items) (at ∷ next ∷ offsets) are zero item there =
    let one : i ≡ item = cc in rw (sym one) are.1
piece-at written name (i ∷ items) (at ∷ next ∷ offsets) are (suc index) item there =
    piece-at written name items (next ∷ offsets) are.2 index item there

-- the same, where the item may not be there
pub piece-there : (written : List ℕ) (name : FeedName) (items : List Item) (offsets : List ℕ)
    → AreItemOffsets written name items offsets → (index : ℕ)
    → IfSome (slice_get items index) (λ item.
    HasPiece written name item (place_between (get_or offsets index 0) (get_or offsets (suc index) 0)))
piece-there written name items offsets are index = go (slice_get items index) refl
  where
    go : (found : Option Item) → slice_get items index ≡ found → IfSome found (λ item.
        HasPiece written name item (place_between (get_or offsets index 0) (get_or offsets (suc index) 0)))
    go None is = tt
    go (Some item) is = piece-at written name items offsets are index item is
