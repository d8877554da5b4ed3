-- Which entry of an identifier counts in a list of documents, by the published rules for duplicates.
--
-- RFC 5005: the entry with the latest `updated` counts. Among entries with the same `updated`, one in the document whose
-- own `updated` is latest counts. RFC 6721: a tombstone removes each entry from before its `when`. That it also removes
-- an entry whose `updated` equals its `when` is a rule of this project.
--
-- The order of the documents in the list doesn't matter.
use Rattle.std.specs.Prelude.{◌≡◌, ℕ, List, ◌<ℤ◌, ◌≤ℤ◌, Contains}
use Rattle.feed_reader.specs.Feed.{DocumentValue}
use Rattle.feed_reader.specs.declared.values.ForeignGone.{ForeignGone}
use Rattle.foreign_entries.specs.Occurrence.{HasTombstone, Occurrence, occurrences}

-- An entry of the identifier is in one of the documents. No entry of the identifier has a later `updated`. No document
-- whose own `updated` is later has an entry of the identifier with the same `updated`. Each tombstone of the identifier
-- is from before the entry's `updated`.
pub record CountsById (documents : List DocumentValue) (id : List ℕ) (o : Occurrence) : Type 0 where
  pub there : Contains (occurrences documents) o
  pub of : o.entry.id ≡ id
  pub latest : (rival : Occurrence) → Contains (occurrences documents) rival → rival.entry.id ≡ id
      → rival.entry.updated ≤ℤ o.entry.updated
  pub newest : (rival : Occurrence) → Contains (occurrences documents) rival → rival.entry.id ≡ id
      → rival.entry.updated ≡ o.entry.updated → rival.document.updated ≤ℤ o.document.updated
  pub undeleted : (gone : ForeignGone) → HasTombstone documents id gone → gone.when <ℤ o.entry.updated
