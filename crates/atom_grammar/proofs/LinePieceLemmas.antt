-- The pieces that are one line.
use Rattle.std.proofs.Common.{◌≡◌, ℕ, List, [], ◌∷◌, ◌++◌, ℤ, true, refl, sym, append_assoc, codes, decimal}
use Rattle.atom_values.specs.Ascii.{lf}
use Rattle.atom_values.specs.Stamp as stamp
use Rattle.chain_links.specs.Address as address
use Rattle.chain_links.specs.Address.{IsAddress}
use Rattle.chain_links.specs.Base.{IsBase}
use Rattle.chain_links.specs.declared.address.Address.{Address}
use Rattle.chain_links.specs.declared.place.Span.{Span}
use Rattle.deleted_entries.specs.FeedId.{feed_text, member_id}
use Rattle.deleted_entries.specs.Tombstone.{TombstoneValue}
use Rattle.atom_writer.specs.declared.doc.FeedName.{FeedName}
use Rattle.atom_writer.specs.Pieces.{id_piece, updated_piece, link_piece, span_piece, tombstone_piece}
use Rattle.atom_grammar.specs.Cutting.{IsLine}
use Rattle.atom_grammar.specs.FeedParts.{IsSpan}
use Rattle.atom_grammar.specs.Parts.{lacks}
use Rattle.atom_grammar.proofs.PlainLemmas.{IsPlain, IsPlain-lacks, IsPlain-uuid, IsPlain-stamp, IsPlain-decimal, IsPlain-member_id, IsPlain-address}
use Rattle.atom_grammar.proofs.TextLemmas.{lacks_append}

plain_line : (text : List ℕ) → IsPlain text → lacks lf text ≡ true
plain_line text plain = IsPlain-lacks lf text refl plain

-- a plain text between two others
one_line : (start value end : List ℕ) → lacks lf start ≡ true → IsPlain value → lacks lf end ≡ true
    → IsLine (start ++ value ++ (end ++ lf ∷ []))
one_line start value end before plain after = record {
  front = start ++ value ++ end;
  split = sym (append_assoc (start ++ value) end (lf ∷ []));
  none = lacks_append lf (start ++ value) end (lacks_append lf start value before (plain_line value plain)) after;
}

pub id-line : (id : List ℕ) → IsLine (id_piece id)
unfolding id_piece
id-line id = one_line (codes "<id>urn:uuid:") (feed_text id) (codes "</id>") refl (IsPlain-uuid id) refl

pub updated-line : (updated : ℤ) → IsLine (updated_piece updated)
unfolding updated_piece
updated-line updated =
    one_line (codes "<updated>") (stamp.printed updated) (codes "</updated>") refl (IsPlain-stamp updated) refl

pub link-line : (rel : List ℕ) (name : FeedName) (to : Address) → lacks lf rel ≡ true → IsBase name.base
    → IsAddress to → IsLine (link_piece rel name to)
unfolding link_piece
link-line rel name to none is_base is_to =
    one_line (codes "<link rel=\"" ++ rel ++ codes "\" href=\"") (address.printed name.base to) (codes "\"/>")
    (lacks_append lf (codes "<link rel=\"" ++ rel) (codes "\" href=\"")
    (lacks_append lf (codes "<link rel=\"") rel refl none) refl) (IsPlain-address name.base to is_base is_to) refl

pub span-line : (span : Span) → IsSpan span → IsLine (span_piece span)
unfolding span_piece
span-line span is =
    one_line (codes "<sp:span first=\"" ++ decimal span.first ++ codes "\" last=\"") (decimal span.last)
    (codes "\"/>")
    (lacks_append lf (codes "<sp:span first=\"" ++ decimal span.first) (codes "\" last=\"")
    (lacks_append lf (codes "<sp:span first=\"") (decimal span.first) refl
    (plain_line (decimal span.first) (IsPlain-decimal span.first is.first))) refl)
    (IsPlain-decimal span.last is.last) refl

pub tombstone-line : (name : FeedName) (t : TombstoneValue) → IsLine (tombstone_piece name t)
unfolding tombstone_piece
tombstone-line name t =
    let id = member_id name.id t.number in
    one_line (codes "<at:deleted-entry ref=\"" ++ id ++ codes "\" when=\"") (stamp.printed t.when) (codes "\"/>")
    (lacks_append lf (codes "<at:deleted-entry ref=\"" ++ id) (codes "\" when=\"")
    (lacks_append lf (codes "<at:deleted-entry ref=\"") id refl (plain_line id (IsPlain-member_id name.id t.number)))
    refl) (IsPlain-stamp t.when) refl
