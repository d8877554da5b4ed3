-- Where the pieces of a document's items are in its text.
use Rattle.std.specs.Prelude.{◌≡◌, ℕ, ◌+◌, ◌-◌, ◌≤◌, List, [], ◌∷◌, ◌++◌, ℤ, drop, length, take}
use Rattle.chain_links.specs.declared.place.Span.{Span}
use Rattle.deleted_entries.specs.declared.item.Item.{Item}
use Rattle.atom_writer.specs.declared.doc.FeedName.{FeedName}
use Rattle.atom_writer.specs.declared.doc.Kind.{Kind}
use Rattle.atom_writer.specs.Pieces.{item_piece, name_pieces, place_pieces}
use Rattle.atom_grammar.specs.declared.places.PiecePlace.{PiecePlace}

-- the text has the item's piece at this place
pub record HasPiece (text : List ℕ) (name : FeedName) (item : Item) (place : PiecePlace) : Type 0 where
  pub within : place.at + place.length ≤ length text
  pub piece : take place.length (drop place.at text) ≡ item_piece name item

-- the place between two offsets
abbrev pub place_between : ℕ → ℕ → PiecePlace
place_between at next = record { at = at; length = next - at }

-- the offsets of these items' pieces in the text, in order, and the offset after the last one
abbrev pub AreItemOffsets : List ℕ → FeedName → List Item → List ℕ → Type 0
AreItemOffsets text name [] [] = ⊥
AreItemOffsets text name [] (end ∷ []) = Unit {0}
AreItemOffsets text name [] (end ∷ next ∷ offsets) = ⊥
AreItemOffsets text name (item ∷ items) [] = ⊥
AreItemOffsets text name (item ∷ items) (at ∷ []) = ⊥
AreItemOffsets text name (item ∷ items) (at ∷ next ∷ offsets) =
    (at ≤ next) × HasPiece text name item (place_between at next) × AreItemOffsets text name items (next ∷ offsets)

-- the pieces before the items
abbrev pub first_pieces : FeedName → ℤ → Kind → Span → ℕ → List (List ℕ)
first_pieces name updated kind span prev = name_pieces name updated ++ place_pieces name kind span prev
