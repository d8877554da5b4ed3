-- The parts of a document that a mirror keeps in memory.
use Rattle.std.specs.Prelude.{◌≡◌, ℕ, ◌≤◌, List, map, All}
use Rattle.atom_grammar.specs.Places.{AreItemOffsets}
use Rattle.atom_writer.specs.Doc.{DocValue, KeepsRules}
use Rattle.atom_writer.specs.Pieces.{text}
use Rattle.atom_writer.specs.declared.doc.Kind.{Kind}
use Rattle.chain_links.specs.declared.place.Span.{Span}
use Rattle.deleted_entries.specs.declared.item.Item.{Item}
use Rattle.deleted_entries.specs.declared.item.Item.TheVariants.{Kept as KeptItem, Gone as GoneItem}
use Rattle.mirror_walk.specs.declared.mark.ItemMark.{ItemMark}
use Rattle.mirror_walk.specs.declared.mark.ItemMark.TheVariants.{Live, Gone}

-- the number of the item's member, and whether the item is an entry
abbrev pub mark_of : Item → ItemMark
mark_of (KeptItem entry) = Live entry.number
mark_of (GoneItem tombstone) = Gone tombstone.number

abbrev pub marked_number : ItemMark → ℕ
marked_number (Live number) = number
marked_number (Gone number) = number

-- the marks of a document's items, in order
abbrev pub marks_of : DocValue → List ItemMark
marks_of document = map mark_of document.items

-- members are numbered from 1
abbrev pub AreFromOne : List ItemMark → Type 0
AreFromOne marks = All (λ mark. 1 ≤ marked_number mark) marks

-- these parts are the document's
pub record IsOutlineOf (document : DocValue) (kind : Kind) (span : Span) (prev : ℕ) (marks : List ItemMark)
    (offsets : List ℕ) : Type 0 where
  pub kind_is : kind ≡ document.kind
  pub span_is : span ≡ document.span
  pub prev_is : prev ≡ document.prev
  pub marks_are : marks ≡ marks_of document
  pub offsets_are : AreItemOffsets (text document) document.name document.items offsets
  pub from_one : AreFromOne marks
  pub rules : KeepsRules document
