-- The size of a mirror's log.
use Rattle.std.proofs.Common.{◌≡◌, ℕ, zero, suc, ◌+◌, ◌*◌, ◌<◌, ◌≤◌, List, [], ◌∷◌, ◌++◌, length, refl, ◌∙◌}
use Rattle.std.proofs.Common.{ap, map, Some, arith, length-append}
use Rattle.std.specs.Prelude.{codes, slice_get}
use Rattle.std.specs.List.{flat_map}
use Rattle.std.proofs.lemmas.List.Concat.{flat_map-cons}
use Rattle.atom_writer.specs.Doc.{DocValue}
use Rattle.atom_writer.specs.Pieces.{author_piece, declaration_piece, id_piece, item_piece, joined}
use Rattle.atom_writer.specs.Pieces.{name_pieces}
use Rattle.atom_writer.specs.Pieces.{open_piece, pieces, place_pieces, text, title_piece, updated_piece}
use Rattle.feed_journal.specs.Limits.{header_length, payload_limit}
use Rattle.feed_journal.specs.Log.{Follow, IsAppended, LogValue, payload_lengths}
use Rattle.feed_journal.specs.Records.{size_of}
use Rattle.feed_journal.specs.declared.extent.Extent.{Extent}
use Rattle.mirror_walk.specs.Accept.{IsKeptOf}
use Rattle.mirror_walk.specs.Holding.{KeptValue, payloads_of}
use Rattle.mirror_walk.specs.Loading.{IsNext}
use Rattle.mirror_walk.specs.Mirror.{KeepsDocuments}
use Rattle.mirror_walk.proofs.TakenLemmas.{kept-text, loaded-more}

joined-long : (first : List ℕ) (others : List (List ℕ)) → length first ≤ length (joined (first ∷ others))
unfolding joined
joined-long first others = omega (
  arith,
  ap length (flat_map-cons (λ (piece : List ℕ). piece) first others),
  length-append first (flat_map (λ (piece : List ℕ). piece) others),
)

declaration-long : length declaration_piece ≡ 39
unfolding declaration_piece
declaration-long = refl

-- a text has at least the bytes of its declaration
text-long : (d : DocValue) → 39 ≤ length (text d)
unfolding text pieces name_pieces
text-long d = omega (
  arith,
  declaration-long,
  joined-long declaration_piece
      ((open_piece ∷ id_piece d.name.id ∷ title_piece d.name ∷ updated_piece d.updated ∷ author_piece d.name
      ∷ [])
      ++ place_pieces d.name d.kind d.span d.prev ++ map (item_piece d.name) d.items ++ codes "</feed>\n" ∷
      []),
)

-- the documents number fewer than the payloads that a log may have, if the next one fits into an area
pub few-documents : (kept : List KeptValue) → 44 * length kept < size_of (payloads_of kept)
few-documents [] = omega arith
few-documents (k ∷ kept) = omega (arith, few-documents kept, text-long k.document)

-- the size of a log is that of its payloads
pub follow-size : (from : ℕ) (extents : List Extent) (size : ℕ) (payloads : List (List ℕ))
    → Follow from extents size
    → payload_lengths extents ≡ map length payloads → size_of payloads + from ≡ size
follow-size from [] size [] follow same = omega (arith, follow)
follow-size from [] size (payload ∷ payloads) follow same = absurd (cc)
follow-size from (extent ∷ extents) size [] follow same = absurd (cc)
follow-size from (extent ∷ extents) size (payload ∷ payloads) follow same =
    let here : extent.length ≡ length payload = cc in
    let others : payload_lengths extents ≡ map length payloads = cc in
    let rest = follow-size (from + extent.length + header_length) extents size payloads follow.2 others in
    omega (arith, here, rest)

-- the greatest payload
pub follow-most : (from : ℕ) (extents : List Extent) (size index n : ℕ) → Follow from extents size
    → slice_get (payload_lengths extents) index ≡ Some n → n ≤ payload_limit
follow-most from [] size index n follow there = absurd (cc)
follow-most from (extent ∷ extents) size zero n follow there =
    let is : extent.length ≡ n = cc in omega (arith, follow.1, is)
follow-most from (extent ∷ extents) size (suc index) n follow there =
    follow-most (from + extent.length + header_length) extents size index n follow.2 there

-- a log has as many payloads as there are documents
pub count-log : (extents : List Extent) (kept : List KeptValue)
    → payload_lengths extents ≡ map length (payloads_of kept) → length extents ≡ length kept
count-log [] [] same = refl
count-log [] (k ∷ kept) same = absurd (cc)
count-log (extent ∷ extents) [] same = absurd (cc)
count-log (extent ∷ extents) (k ∷ kept) same =
    let others : payload_lengths extents ≡ map length (payloads_of kept) = cc in
    omega (arith, count-log extents kept others)

-- the log after one more document
pub lengths-more : (extents : List Extent) (extent : Extent) (kept : List KeptValue) (given : KeptValue)
    → payload_lengths extents ≡ map length (payloads_of kept) → extent.length ≡ length (text given.document)
    → payload_lengths (extents ++ extent ∷ []) ≡ map length (payloads_of (kept ++ given ∷ []))
lengths-more [] extent [] given same is = ap (λ (n : ℕ). n ∷ []) is
lengths-more [] extent (k ∷ kept) given same is = absurd (cc)
lengths-more (first ∷ extents) extent [] given same is = absurd (cc)
lengths-more (first ∷ extents) extent (k ∷ kept) given same is =
    let here : first.length ≡ length (text k.document) = cc in
    let others : payload_lengths extents ≡ map length (payloads_of kept) = cc in
    let rest = lengths-more extents extent kept given others is in
    cc

pub size-more : (kept : List KeptValue) (given : KeptValue)
    → size_of (payloads_of (kept ++ given ∷ [])) ≡ size_of (payloads_of kept) + length (text given.document)
    + header_length
size-more [] given = omega arith
size-more (k ∷ kept) given = omega (arith, size-more kept given)

-- an append of one more document keeps the rules of the documents
pub keeps-taken : (base : List ℕ) (kept : List KeptValue) (given : KeptValue) (payload : List ℕ)
    (log after : LogValue)
    → KeepsDocuments base kept log → IsKeptOf payload given → IsNext base kept given
    → IsAppended (length payload) log after → KeepsDocuments base (kept ++ given ∷ []) after
keeps-taken base kept given payload log after keeps read next appended =
    let is = appended.log in
    let counted : length payload ≡ length (text given.document) = ap length read.text in
    record {
      lengths = ap (λ (l : LogValue). payload_lengths l.extents) is
          ∙ lengths-more log.extents (record { offset = log.size + 4; length = length payload }) kept given
          keeps.lengths
          counted;
      size = omega (arith, ap (λ (l : LogValue). l.size) is, size-more kept given, keeps.size, counted);
      loaded = loaded-more base kept given keeps.loaded (kept-text payload given read) next;
    }
