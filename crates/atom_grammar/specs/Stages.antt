-- How far each step reads a document, and where it refuses.
use Rattle.std.specs.Prelude.{◌≡◌, ℕ, ◌-◌, ◌<◌, ◌≤◌, ◌^◌, List, [], ◌∷◌, ◌++◌, map, length, Result, Ok, Err, ℤ, nat_eq, All}
use Rattle.std.specs.List.{IsDistinct}
use Rattle.atom_values.specs.Stamp.{IsStamp}
use Rattle.chain_links.specs.declared.place.Span.{Span}
use Rattle.deleted_entries.specs.Item.{item_number, IsItem}
use Rattle.deleted_entries.specs.declared.item.Item.{Item}
use Rattle.atom_writer.specs.declared.doc.FeedName.{FeedName}
use Rattle.atom_writer.specs.declared.doc.Kind.{Kind}
use Rattle.atom_writer.specs.declared.doc.Kind.TheVariants.{Subscription, Archive as Sealed}
use Rattle.atom_writer.specs.Doc.{IsFeedName, span_len}
use Rattle.atom_writer.specs.Pieces.{name_pieces, current_pieces, prev_pieces, next_pieces, span_piece, joined}
use Rattle.atom_grammar.specs.declared.opening.Opening.{Opening}
use Rattle.atom_grammar.specs.declared.part_fault.PartFault.{PartFault}
use Rattle.atom_grammar.specs.declared.part_fault.PartFault.TheVariants.{Mismatch, NoMemory}
use Rattle.atom_grammar.specs.FeedParts.{IsKind, own_piece, prev_link, prev_piece}
use Rattle.atom_grammar.specs.Parts.{IsAbsent, literal}
use Rattle.atom_writer.specs.Pieced as refused
use Rattle.atom_grammar.specs.Refusal.{documents}

-- After the pieces `read`, the input is read up to `rest`, where no piece is allowed. The pieces read so far begin a
-- document, and they are not a whole document that ends with the input.
abbrev pub IsRefused : List (List ℕ) → List ℕ → List ℕ → Type 0
IsRefused read input rest = refused.IsRefused documents read input rest

-- the pieces up to the document's own address
unfoldable pub opening_pieces : FeedName → Kind → ℤ → List (List ℕ)
opening_pieces name kind updated =
    name_pieces name updated ++ own_piece (record { base = name.base; kind = kind }) ∷ []

-- the pieces between the own address and the span
unfoldable pub links_pieces : FeedName → Kind → ℕ → List (List ℕ)
links_pieces name kind prev = current_pieces name kind ++ prev_pieces name prev ++ next_pieces name kind

-- the pieces up to the span
unfoldable pub head_pieces : FeedName → Kind → ℤ → ℕ → Span → List (List ℕ)
head_pieces name kind updated prev span =
    opening_pieces name kind updated ++ links_pieces name kind prev ++ span_piece span ∷ []

pub record IsOpening (name : FeedName) (kind : Kind) (updated : ℤ) : Type 0 where
  pub is_name : IsFeedName name
  pub is_kind : IsKind kind
  pub is_updated : IsStamp updated

pub record IsOpeningRead (named : Opening) (before after : List ℕ) : Type 0 where
  pub lawful : IsOpening named.name named.kind named.updated
  pub split : before ≡ joined (opening_pieces named.name named.kind named.updated) ++ after

abbrev pub ReadsOpening : List ℕ → Result Opening PartFault → List ℕ → Type 0
ReadsOpening before (Ok named) after = IsOpeningRead named before after
ReadsOpening before (Err Mismatch) after = IsRefused [] before after
ReadsOpening before (Err NoMemory) after = Unit {0}

-- the archive before a document: a subscription document may have no link to it, an archive's number implies it
abbrev pub IsPrev : FeedName → Kind → ℕ → List ℕ → Type 0
IsPrev name Subscription prev after = prev ≡ 0 → IsAbsent (prev_link name.base) after
IsPrev name (Sealed number) prev after = prev ≡ number - 1

pub record ReadsPrev (name : FeedName) (kind : Kind) (before : List ℕ) (prev : ℕ) (after : List ℕ) : Type 0 where
  pub small : prev < 2 ^ 32
  pub is : IsPrev name kind prev after
  pub split : before ≡ joined (links_pieces name kind prev) ++ after

abbrev pub ReadsLinks : FeedName → Kind → List ℕ → Result ℕ PartFault → List ℕ → Type 0
ReadsLinks name kind before (Ok prev) after = ReadsPrev name kind before prev after
ReadsLinks name kind before (Err Mismatch) after =
    (updated : ℤ) → IsOpening name kind updated → IsRefused (opening_pieces name kind updated) before after
ReadsLinks name kind before (Err NoMemory) after = Unit {0}

-- the link of an archive to the one before it
abbrev pub ReadsPrevLink : FeedName → ℕ → List ℕ → Result (Unit {0}) PartFault → List ℕ → Type 0
ReadsPrevLink name prev before (Ok _) after = before ≡ joined (prev_pieces name prev) ++ after
ReadsPrevLink name prev before (Err Mismatch) after =
    (after ≡ before) × (1 ≤ prev) × IsAbsent (literal (prev_piece name.base prev)) before
ReadsPrevLink name prev before (Err NoMemory) after = Unit {0}

pub record AreItems (span : Span) (items : List Item) : Type 0 where
  pub each : All IsItem items
  pub room : length items ≤ span_len span
  pub distinct : IsDistinct nat_eq (map item_number items)
