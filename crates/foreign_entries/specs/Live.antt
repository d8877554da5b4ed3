-- The live entries of a list of documents.
use Rattle.std.specs.Prelude.{◌≡◌, ℕ, List, [], ◌∷◌, ◌++◌, All, Any}
use Rattle.std.specs.declared.cmp.Ordering.TheVariants.{Less}
use Rattle.std.specs.Cmp.Lexicographic.{slice_cmp}
use Rattle.std.specs.Ordering.{nat_cmp}
use Rattle.feed_reader.specs.Feed.{DocumentValue}
use Rattle.feed_reader.specs.declared.values.ForeignEntry.{ForeignEntry}
use Rattle.foreign_entries.specs.Occurrence.{Occurrence, occurrences}
use Rattle.foreign_entries.specs.Counts.{CountsById}

-- the first entry that counts of the identifier, in the order of the documents and then of the places
pub record IsFirstCounting (documents : List DocumentValue) (id : List ℕ) (entry : ForeignEntry) : Type 0 where
  pub before : List Occurrence
  pub occurrence : Occurrence
  pub after : List Occurrence
  pub split : occurrences documents ≡ before ++ occurrence ∷ after
  pub counts : CountsById documents id occurrence
  pub first : All (λ (o : Occurrence). ¬ CountsById documents id o) before
  pub is : entry ≡ occurrence.entry

-- one identifier comes before another by its bytes
abbrev pub IsBefore : List ℕ → List ℕ → Type 0
IsBefore one other = slice_cmp nat_cmp one other ≡ Less

-- each entry's identifier comes before those of all later entries
abbrev pub IsRising : List ForeignEntry → Type 0
IsRising [] = Unit {0}
IsRising (e ∷ later) = All (λ (other : ForeignEntry). IsBefore e.id other.id) later × IsRising later

-- the live entries of documents, newest first, in the order of the identifiers' bytes: of each identifier of which an
-- entry counts, the first one that does
pub record IsForeignLive (documents : List DocumentValue) (live : List ForeignEntry) : Type 0 where
  pub rising : IsRising live
  pub each : All (λ (e : ForeignEntry). IsFirstCounting documents e.id e) live
  pub all : (id : List ℕ) (o : Occurrence) → CountsById documents id o
      → Any (λ (e : ForeignEntry). e.id ≡ id) live
