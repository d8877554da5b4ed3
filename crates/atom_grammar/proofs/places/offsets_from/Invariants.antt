use Rattle.std.proofs.Common.{◌≡◌, ℕ, List, ◌≤◌, ◌++◌, drop, length, map}
use Rattle.chain_links.specs.Base.{IsBase}
use Rattle.atom_writer.specs.declared.doc.FeedName.{FeedName}
use Rattle.atom_writer.specs.Pieces.{item_piece, joined}
use Rattle.atom_grammar.proofs.PlaceLemmas.{HasPlaced}
use Rattle.atom_grammar.proofs.places.offsets_from.Given as goal

abbrev pub invariant-loop-item : goal.invariant-loop-item
invariant-loop-item l =
    (l.at ≤ length l.written)
    × ((name : FeedName) (rest : List ℕ) → IsBase name.base
    → drop l.from l.written ≡ joined (map (item_piece name) l.items) ++ rest
    → HasPlaced l.written name l.items l.item-index l.offsets.items l.at rest)
