-- An entry of a document, which is read from its piece of the text.
use Rattle.std.proofs.Common.{◌≡◌, ◌≤◌, ◌+◌, ℕ, List, Option, Some, length, sym, ap, subst, ◌∙◌, arith}
use Rattle.std.specs.Prelude.{All, IfSome, drop, slice_get, take}
use Rattle.std.proofs.lemmas.Option.{get_or_from_slice_get, slice_get_within}
use Rattle.atom_grammar.specs.Places.{HasPiece}
use Rattle.atom_grammar.specs.declared.places.PiecePlace.{PiecePlace}
use Rattle.atom_grammar.proofs.PlaceLemmas.{item_piece-same}
use Rattle.atom_values.specs.Entry.{EntryValue, IsEntry}
use Rattle.atom_writer.specs.Doc.{DocValue}
use Rattle.atom_writer.specs.Pieces.{entry_piece, text}
use Rattle.atom_writer.specs.declared.doc.FeedName.{FeedName}
use Rattle.deleted_entries.specs.Item.{IsItem}
use Rattle.deleted_entries.specs.declared.item.Item.{Item}
use Rattle.deleted_entries.specs.declared.item.Item.TheVariants.{Kept}
use Rattle.coverage_auditor.specs.Chain.{IsOfFeed, IsTextOf}

pub all-at : {A : Type 0} (P : A → Type 0) (list : List A) (index : ℕ) (x : A) → All P list
    → slice_get list index ≡ Some x → P x
all-at P list index x all there =
    subst P (get_or_from_slice_get list index x x there) (all index x (slice_get_within list index x there))

module _ (document : DocValue) (bytes : List ℕ) (is : IsTextOf document bytes) (index : ℕ) (entry : EntryValue)
    (there : slice_get document.items index ≡ Some (Kept entry)) (place : PiecePlace)
    (has : IfSome (slice_get document.items index) (λ item. HasPiece (text document) document.name item place)) where
  -- the entry's piece is at this place
  piece-of : HasPiece (text document) document.name (Kept entry) place
  piece-of = subst (λ (found : Option Item). IfSome found (λ item. HasPiece (text document) document.name item place))
      there has

  pub piece-within : place.at + place.length ≤ length bytes
  piece-within = omega (arith, piece-of.within, ap (λ (bs : List ℕ). length bs) is.text_is)

  pub piece-lawful : IsEntry entry
  piece-lawful = all-at IsItem document.items index (Kept entry) is.is_doc.items there

  -- it is also the entry's piece under another name of the feed
  pub piece-read : (name : FeedName) → IsOfFeed name document
      → take place.length (drop place.at bytes) ≡ entry_piece name entry
  piece-read name of =
      ap (λ (bs : List ℕ). take place.length (drop place.at bs)) is.text_is ∙ piece-of.piece
      ∙ item_piece-same document.name name of.base of.feed (Kept entry)
