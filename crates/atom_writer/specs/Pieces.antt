-- The canonical text of a document (RFC 4287, RFC 5005 section 4), as a list of pieces. Each piece ends with LF, and an
-- item is one piece.
use Rattle.std.specs.Prelude.{ℕ, ◌+◌, ◌==◌, List, [], ◌∷◌, ◌++◌, ℤ, map, flat_map, false, if◌then◌else◌, codes, decimal}
use Rattle.atom_values.specs.Entry.{EntryValue}
use Rattle.atom_values.specs.Escape.{escaped}
use Rattle.atom_values.specs.Stamp as stamp
use Rattle.chain_links.specs.Address as address
use Rattle.chain_links.specs.declared.address.Address.{Address}
use Rattle.chain_links.specs.declared.address.Address.TheVariants.{Feed, Archive}
use Rattle.chain_links.specs.declared.place.Span.{Span}
use Rattle.deleted_entries.specs.FeedId.{feed_text, member_id}
use Rattle.deleted_entries.specs.Tombstone.{TombstoneValue}
use Rattle.deleted_entries.specs.declared.item.Item.{Item}
use Rattle.deleted_entries.specs.declared.item.Item.TheVariants.{Kept, Gone}
use Rattle.atom_writer.specs.declared.doc.FeedName.{FeedName}
use Rattle.atom_writer.specs.declared.doc.Kind.{Kind}
use Rattle.atom_writer.specs.declared.doc.Kind.TheVariants.{Subscription, Archive as Sealed}
use Rattle.atom_writer.specs.Doc.{DocValue}
use Rattle.atom_writer.specs.Entries.{inner_text}

-- the piece of an entry
unfoldable pub entry_piece : FeedName → EntryValue → List ℕ
entry_piece name e = codes "<entry>" ++ inner_text name e ++ codes "</entry>\n"

-- the piece of a tombstone (RFC 6721 section 3)
unfoldable pub tombstone_piece : FeedName → TombstoneValue → List ℕ
tombstone_piece name t =
    codes "<at:deleted-entry ref=\"" ++ member_id name.id t.number ++ codes "\" when=\"" ++ stamp.printed t.when
    ++ codes "\"/>\n"

abbrev pub item_piece : FeedName → Item → List ℕ
item_piece name (Kept e) = entry_piece name e
item_piece name (Gone t) = tombstone_piece name t

-- the document's own address
abbrev pub own_address : Kind → Address
own_address Subscription = Feed
own_address (Sealed number) = Archive number

-- the piece of a link to one of the feed's documents
unfoldable pub link_piece : List ℕ → FeedName → Address → List ℕ
link_piece rel name to =
    codes "<link rel=\"" ++ rel ++ codes "\" href=\"" ++ address.printed name.base to ++ codes "\"/>\n"

-- the link to the archive before the document, if there is one
unfoldable pub prev_pieces : FeedName → ℕ → List (List ℕ)
prev_pieces name prev = if prev == 0 then [] else link_piece (codes "prev-archive") name (Archive prev) ∷ []

-- an archive's link to the subscription document
unfoldable pub current_pieces : FeedName → Kind → List (List ℕ)
current_pieces name Subscription = []
current_pieces name (Sealed _) = link_piece (codes "current") name Feed ∷ []

-- an archive's link to the next archive, and the mark of an archive
unfoldable pub next_pieces : FeedName → Kind → List (List ℕ)
next_pieces name Subscription = []
next_pieces name (Sealed number) =
    link_piece (codes "next-archive") name (Archive (number + 1)) ∷ codes "<fh:archive/>\n" ∷ []

unfoldable pub open_piece : List ℕ
open_piece =
    codes "<feed xmlns=\"http://www.w3.org/2005/Atom\"" ++ codes " xmlns:fh=\"http://purl.org/syndication/history/1.0\""
    ++ codes " xmlns:at=\"http://purl.org/atompub/tombstones/1.0\"" ++ codes " xmlns:app=\"http://www.w3.org/2007/app\""
    ++ codes " xmlns:sp=\"urn:archived-feed:span:1\">\n"

unfoldable pub declaration_piece : List ℕ
declaration_piece = codes "<?xml version=\"1.0\" encoding=\"utf-8\"?>\n"

unfoldable pub id_piece : List ℕ → List ℕ
id_piece id = codes "<id>urn:uuid:" ++ feed_text id ++ codes "</id>\n"

abbrev pub title_piece : FeedName → List ℕ
title_piece name = codes "<title>" ++ escaped false name.title ++ codes "</title>\n"

unfoldable pub updated_piece : ℤ → List ℕ
updated_piece updated = codes "<updated>" ++ stamp.printed updated ++ codes "</updated>\n"

abbrev pub author_piece : FeedName → List ℕ
author_piece name = codes "<author><name>" ++ escaped false name.author ++ codes "</name></author>\n"

unfoldable pub span_piece : Span → List ℕ
span_piece span =
    codes "<sp:span first=\"" ++ decimal span.first ++ codes "\" last=\"" ++ decimal span.last ++ codes "\"/>\n"

-- the pieces that name the feed
unfoldable pub name_pieces : FeedName → ℤ → List (List ℕ)
name_pieces name updated =
    declaration_piece ∷ open_piece ∷ id_piece name.id ∷ title_piece name ∷ updated_piece updated ∷ author_piece name ∷
    []

-- the pieces that place the document in the chain
unfoldable pub place_pieces : FeedName → Kind → Span → ℕ → List (List ℕ)
place_pieces name kind span prev =
    link_piece (codes "self") name (own_address kind) ∷ current_pieces name kind ++ prev_pieces name prev
    ++ next_pieces name kind ++ span_piece span ∷ []

-- all pieces, in order
unfoldable pub pieces : DocValue → List (List ℕ)
pieces d =
    name_pieces d.name d.updated ++ place_pieces d.name d.kind d.span d.prev ++ map (item_piece d.name) d.items
    ++ codes "</feed>\n" ∷ []

-- the text of a list of pieces
unfoldable pub joined : List (List ℕ) → List ℕ
joined ps = flat_map (λ piece. piece) ps

-- the canonical text of the document
unfoldable pub text : DocValue → List ℕ
text d = joined (pieces d)
