-- The pieces of a document as parts that are read, and what it means to read a piece.
use Rattle.std.specs.Prelude.{◌≡◌, ℕ, ◌<◌, ◌≤◌, ◌^◌, List, map, Result, Ok, Err, ℤ, false, nat_eq, IsTrue, codes}
use Rattle.std.specs.List.{list_any}
use Rattle.chain_links.specs.Address.{IsAddress, printed}
use Rattle.chain_links.specs.Base.{IsBase}
use Rattle.chain_links.specs.declared.address.Address.{Address}
use Rattle.chain_links.specs.declared.address.Address.TheVariants.{Archive}
use Rattle.chain_links.specs.declared.place.Span.{Span}
use Rattle.deleted_entries.specs.FeedId.{IsFeedId, feed_text}
use Rattle.deleted_entries.specs.Item.{item_number, IsItem}
use Rattle.deleted_entries.specs.declared.item.Item.{Item}
use Rattle.atom_writer.specs.declared.doc.FeedName.{FeedName}
use Rattle.atom_writer.specs.declared.doc.Kind.{Kind}
use Rattle.atom_writer.specs.declared.doc.Kind.TheVariants.{Subscription, Archive as Sealed}
use Rattle.atom_writer.specs.Doc.{is_placed, span_len, item_limit, archive_limit}
use Rattle.atom_writer.specs.Pieces.{id_piece, link_piece, own_address as place, span_piece, item_piece}
use Rattle.atom_values.specs.Ascii.{quote}
use Rattle.atom_grammar.specs.declared.opening.Own.{Own}
use Rattle.atom_grammar.specs.declared.part_fault.PartFault.{PartFault}
use Rattle.atom_grammar.specs.declared.part_fault.PartFault.TheVariants.{Mismatch, NoMemory}
use Rattle.atom_grammar.specs.Items.{element, date}
use Rattle.atom_grammar.specs.Parts.{Part, Anything, BeginsWithByte, IsFound, IsAbsent, literal}

-- an archive has a number that an archive may have
abbrev pub IsKind : Kind → Type 0
IsKind Subscription = Unit {0}
IsKind (Sealed number) = (1 ≤ number) × (number ≤ archive_limit)

-- the base and the kind of document that the document's own address names
pub record IsOwn (own : Own) : Type 0 where
  pub base : IsBase own.base
  pub kind : IsKind own.kind

-- a name with this base: the links use no other part of a name
abbrev pub at_base : List ℕ → FeedName
at_base base = record { base = base; id = codes ""; title = codes ""; author = codes "" }

unfoldable pub own_piece : Own → List ℕ
own_piece own = link_piece (codes "self") (at_base own.base) (place own.kind)

-- the number in a link to an archive
abbrev pub IsArchiveNumber : ℕ → Type 0
IsArchiveNumber number = (1 ≤ number) × (number < 2 ^ 32)

unfoldable pub prev_piece : List ℕ → ℕ → List ℕ
prev_piece base number = link_piece (codes "prev-archive") (at_base base) (Archive number)

pub record IsSpan (span : Span) : Type 0 where
  pub first : span.first < 2 ^ 32
  pub last : span.last < 2 ^ 32

-- the span of a document of this kind
pub record IsSpanOf (kind : Kind) (prev : ℕ) (span : Span) : Type 0 where
  pub bounds : IsSpan span
  pub placed : IsTrue (is_placed kind span prev)
  pub few : span_len span ≤ item_limit

abbrev pub uuid : Part (List ℕ)
uuid = record { Is = IsFeedId; text = feed_text; Before = Anything }

abbrev pub feed_id : Part (List ℕ)
feed_id = record { Is = IsFeedId; text = id_piece; Before = Anything }

abbrev pub title : Part (List ℕ)
title = element (codes "<title>") (codes "</title>\n")

abbrev pub updated : Part ℤ
updated = date (codes "<updated>") (codes "</updated>\n")

abbrev pub author : Part (List ℕ)
author = element (codes "<author><name>") (codes "</name></author>\n")

-- the address of the document itself, up to the quote
abbrev pub own_address : Part Own
own_address = record { Is = IsOwn; text = λ own. printed own.base (place own.kind); Before = BeginsWithByte quote }

abbrev pub own : Part Own
own = record { Is = IsOwn; text = own_piece; Before = Anything }

-- a link of this relation, by the document that it names
abbrev pub feed_link : List ℕ → List ℕ → Part Address
feed_link rel base = record { Is = IsAddress; text = link_piece rel (at_base base); Before = Anything }

-- a link of this relation to one of the feed's documents
abbrev pub link_to : List ℕ → List ℕ → Address → Part (Unit {0})
link_to rel base to = literal (link_piece rel (at_base base) to)

abbrev pub prev_link : List ℕ → Part ℕ
prev_link base = record { Is = IsArchiveNumber; text = prev_piece base; Before = Anything }

abbrev pub span : Part Span
span = record { Is = IsSpan; text = span_piece; Before = Anything }

abbrev pub span_of : Kind → ℕ → Part Span
span_of kind prev = record { Is = IsSpanOf kind prev; text = span_piece; Before = Anything }

-- a piece is read whole, or the input stays where it begins
abbrev pub ReadsPiece : {A : Type 0} → Part A → List ℕ → Result A PartFault → List ℕ → Type 0
ReadsPiece part before (Ok value) after = IsFound part before value after
ReadsPiece part before (Err Mismatch) after = (after ≡ before) × IsAbsent part before
ReadsPiece part before (Err NoMemory) after = Unit {0}

-- an item of another number than these have
pub record IsItemBehind (before : List Item) (next : Item) : Type 0 where
  pub item : IsItem next
  pub apart : list_any (nat_eq (item_number next)) (map item_number before) ≡ false

abbrev pub item_behind : FeedName → List Item → Part Item
item_behind name before = record { Is = IsItemBehind before; text = item_piece name; Before = Anything }
