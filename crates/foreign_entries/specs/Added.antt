-- What one more entry or tombstone changes.
use Rattle.std.specs.Prelude.{◌≡◌, List, Option, Some, None, ◌∷◌, [], ◌++◌, map, ℤ, ◌<ℤ◌, int_le, ◌⊎◌, if◌then◌else◌}
use Rattle.std.specs.Prelude.{option_and_then, Bool, false}
use Rattle.feed_reader.specs.Feed.{DocumentValue}
use Rattle.feed_reader.specs.declared.values.ForeignEntry.{ForeignEntry}
use Rattle.feed_reader.specs.declared.values.ForeignGone.{ForeignGone}
use Rattle.foreign_entries.specs.Occurrence.{Occurrence}
use Rattle.foreign_entries.specs.Tally.{IsMemberOf, Keeps, TalliesIn}
use Rattle.foreign_entries.specs.declared.live.LiveEntries.{LiveEntries}
use Rattle.foreign_entries.specs.declared.live.Member.{Member}
use Rattle.foreign_entries.specs.declared.live.Kept.{Kept}

-- an entry that is kept, as it is in its document
pub record IsOccurrenceOf (kept : Kept) (o : Occurrence) : Type 0 where
  pub entry : kept.entry ≡ o.entry
  pub document : kept.document_updated ≡ o.document.updated

-- an entry that is kept is newer than another
abbrev pub IsNewerKept : Kept → Kept → Type 0
IsNewerKept one other =
    (other.entry.updated <ℤ one.entry.updated)
    ⊎ ((other.entry.updated ≡ one.entry.updated) × (other.document_updated <ℤ one.document_updated))

-- a member before its first entry or tombstone
abbrev pub no_member : Member
no_member = record { kept = None; gone = None }

-- a member after one more entry of its identifier
abbrev pub OffersEntry : Kept → Member → Member → Type 0
OffersEntry kept before after =
    (entries : List Occurrence) (gone : List ForeignGone) (o : Occurrence) → IsOccurrenceOf kept o
    → Keeps entries gone o.entry.id before → IsMemberOf (entries ++ o ∷ []) gone o.entry.id after

-- a member after one more tombstone of its identifier
abbrev pub OffersTombstone : ℤ → Member → Member → Type 0
OffersTombstone when before after =
    (entries : List Occurrence) (gone : List ForeignGone) (g : ForeignGone) → g.when ≡ when
    → Keeps entries gone g.id before → IsMemberOf entries (gone ++ g ∷ []) g.id after

-- the map after one more entry
abbrev pub AddsEntry : Kept → LiveEntries → LiveEntries → Type 0
AddsEntry kept before after =
    (entries : List Occurrence) (gone : List ForeignGone) (o : Occurrence) → IsOccurrenceOf kept o
    → TalliesIn entries gone before → TalliesIn (entries ++ o ∷ []) gone after

-- the map after more entries, which are in a document with this `updated`
abbrev pub AddsEntries : List ForeignEntry → ℤ → LiveEntries → LiveEntries → Type 0
AddsEntries more updated before after =
    (entries : List Occurrence) (gone : List ForeignGone) (d : DocumentValue) → d.updated ≡ updated
    → TalliesIn entries gone before
    → TalliesIn (entries ++ map (λ (e : ForeignEntry). record { document = d; entry = e }) more) gone after

-- the map after one more tombstone
abbrev pub AddsTombstone : ForeignGone → LiveEntries → LiveEntries → Type 0
AddsTombstone g before after =
    (entries : List Occurrence) (gone : List ForeignGone) → TalliesIn entries gone before
    → TalliesIn entries (gone ++ g ∷ []) after

-- the map after more tombstones
abbrev pub AddsTombstones : List ForeignGone → LiveEntries → LiveEntries → Type 0
AddsTombstones more before after =
    (entries : List Occurrence) (gone : List ForeignGone) → TalliesIn entries gone before
    → TalliesIn entries (gone ++ more) after

-- a tombstone with this `when` removes an entry with this `updated`
abbrev pub is_removed : ℤ → Option ℤ → Bool
is_removed updated None = false
is_removed updated (Some when) = int_le updated when

-- the entry of a member, unless a tombstone removes it
abbrev pub live_entry : Member → Option ForeignEntry
live_entry member = option_and_then
    (λ (kept : Kept). if is_removed kept.entry.updated member.gone then None else Some kept.entry) member.kept
