-- A feed document as contracts see it, and the rules that its type keeps (RFC 5005 section 4).
use Rattle.std.specs.Prelude.{ℕ, ◌+◌, ◌-◌, ◌≤◌, ◌<◌, ◌^◌, List, ℤ, map, length, Bool, not, ◌&&◌, ◌||◌, ◌==◌, nat_le, nat_lt, nat_eq, if◌then◌else◌, IsTrue, All}
use Rattle.std.specs.List.{IsDistinct}
use Rattle.atom_values.specs.Stamp.{IsStamp}
use Rattle.atom_values.specs.XmlText.{IsAtomText}
use Rattle.chain_links.specs.Base.{IsBase}
use Rattle.chain_links.specs.declared.place.Span.{Span}
use Rattle.deleted_entries.specs.FeedId.{IsFeedId}
use Rattle.deleted_entries.specs.Item.{item_number, IsItem}
use Rattle.deleted_entries.specs.declared.item.Item.{Item}
use Rattle.atom_writer.specs.declared.doc.FeedName.{FeedName}
use Rattle.atom_writer.specs.declared.doc.Kind.{Kind}
use Rattle.atom_writer.specs.declared.doc.Kind.TheVariants.{Subscription, Archive}

-- the greatest number of operations that a document covers, and so of its items
abbrev pub item_limit : ℕ
item_limit = 100

-- the greatest number of an archive: its document names the next one, whose number is a u32
abbrev pub archive_limit : ℕ
archive_limit = 4_294_967_294

pub record DocValue : Type 0 where
  pub name : FeedName
  pub kind : Kind
  pub span : Span
  pub prev : ℕ
  pub updated : ℤ
  pub items : List Item

-- the number of operations that a span covers
abbrev pub span_len : Span → ℕ
span_len span = span.last + 1 - span.first

-- The document may have this place in the chain. A subscription document covers no operation (its span is 1 to 0) or a
-- run of operations, and it has an archive before it exactly if its span doesn't begin at 1. An archive covers a run of
-- operations and comes after the archive whose number is one less; only archive 1 begins at 1.
abbrev pub is_placed : Kind → Span → ℕ → Bool
is_placed Subscription span prev =
    ((span.first == 1) && (span.last == 0) || nat_le span.first span.last) && nat_le 1 span.first
    && (if span.first == 1 then prev == 0 else nat_lt 0 prev)
is_placed (Archive number) span prev =
    nat_le 1 number && nat_le number archive_limit && (prev == number - 1) && nat_le span.first span.last
    && (if number == 1 then span.first == 1 else not (span.first == 1))

-- the document is a subscription document, or an archive that another one may follow
abbrev pub HasNext : Kind → Type 0
HasNext Subscription = Unit {0}
HasNext (Archive number) = number ≤ archive_limit

-- the rules of a document
pub record KeepsRules (d : DocValue) : Type 0 where
  pub placed : IsTrue (is_placed d.kind d.span d.prev)
  pub few : span_len d.span ≤ item_limit
  pub room : length d.items ≤ span_len d.span
  pub distinct : IsDistinct nat_eq (map item_number d.items)

-- the rules that the types of a feed's name keep
pub record IsFeedName (name : FeedName) : Type 0 where
  pub base : IsBase name.base
  pub id : IsFeedId name.id
  pub title : IsAtomText name.title
  pub author : IsAtomText name.author

-- the rules that the types of a document keep
pub record IsDoc (d : DocValue) : Type 0 where
  pub name : IsFeedName d.name
  pub first : d.span.first < 2 ^ 32
  pub last : d.span.last < 2 ^ 32
  pub prev : d.prev < 2 ^ 32
  pub updated : IsStamp d.updated
  pub items : All IsItem d.items
  pub rules : KeepsRules d
