-- The entries and the tombstones of a list of documents, each with the document that it is in.
use Rattle.std.specs.Prelude.{ℕ, List, map, flat_map, Contains, ◌≡◌}
use Rattle.feed_reader.specs.Feed.{DocumentValue}
use Rattle.feed_reader.specs.declared.values.ForeignEntry.{ForeignEntry}
use Rattle.feed_reader.specs.declared.values.ForeignGone.{ForeignGone}

-- an entry in a document
pub record Occurrence : Type 0 where
  pub document : DocumentValue
  pub entry : ForeignEntry

-- the entries of a document, by their places in it
abbrev pub occurrences_in : DocumentValue → List Occurrence
occurrences_in d = map (λ (e : ForeignEntry). record { document = d; entry = e }) d.entries

-- all entries, in the order of the documents and then by their places
abbrev pub occurrences : List DocumentValue → List Occurrence
occurrences documents = flat_map occurrences_in documents

-- one of the documents has this tombstone of the identifier
pub record HasTombstone (documents : List DocumentValue) (id : List ℕ) (gone : ForeignGone) : Type 0 where
  pub document : DocumentValue
  pub there : Contains documents document
  pub has : Contains document.gone gone
  pub of : gone.id ≡ id
