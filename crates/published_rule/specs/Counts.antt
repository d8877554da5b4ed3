-- Which entry of a member counts in a list of documents, by the published rules for duplicates.
--
-- RFC 5005: the entry with the latest `updated` counts. Among entries with the same `updated`, the one in the document
-- whose own `updated` is latest counts. RFC 6721: a tombstone removes each entry from before its `when`. That it also
-- removes an entry whose `updated` equals its `when` is a rule of this project.
--
-- The order of the documents in the list doesn't matter.
use Rattle.std.specs.Prelude.{◌≡◌, ℕ, List, ◌<ℤ◌, ◌≤ℤ◌, Contains}
use Rattle.atom_values.specs.Entry.{EntryValue}
use Rattle.atom_writer.specs.Doc.{DocValue}
use Rattle.deleted_entries.specs.Tombstone.{TombstoneValue}
use Rattle.deleted_entries.specs.declared.item.Item.TheVariants.{Kept, Gone}

-- the document has this entry of the member
pub record HasEntry (document : DocValue) (number : ℕ) (entry : EntryValue) : Type 0 where
  pub kept : Contains document.items (Kept entry)
  pub member : entry.number ≡ number

-- the document has this tombstone of the member
pub record HasTombstone (document : DocValue) (number : ℕ) (tombstone : TombstoneValue) : Type 0 where
  pub gone : Contains document.items (Gone tombstone)
  pub member : tombstone.number ≡ number

-- A document has the entry. No entry of the member has a later `updated`. No document whose own `updated` is later than
-- this document's has an entry of the member with the same `updated`. Each tombstone of the member is from before the
-- entry's `updated`.
pub record Counts (documents : List DocValue) (number : ℕ) (entry : EntryValue) : Type 0 where
  pub document : DocValue
  pub there : Contains documents document
  pub has : HasEntry document number entry
  pub latest : (other : DocValue) (rival : EntryValue) → Contains documents other → HasEntry other number rival
      → rival.updated ≤ℤ entry.updated
  pub newest : (other : DocValue) (rival : EntryValue) → Contains documents other → HasEntry other number rival
      → rival.updated ≡ entry.updated → other.updated ≤ℤ document.updated
  pub undeleted : (other : DocValue) (tombstone : TombstoneValue) → Contains documents other
      → HasTombstone other number tombstone → tombstone.when <ℤ entry.updated
