-- What `LiveEntries` keeps for each identifier in a list of documents.
use Rattle.std.specs.Prelude.{◌≡◌, ◌≢◌, ℕ, List, Option, IsSome, MatchOption, All, Contains, flat_map, ◌++◌, ◌∷◌}
use Rattle.std.specs.Prelude.{ℤ, ◌<ℤ◌, ◌≤ℤ◌, ◌⊎◌}
use Rattle.std.specs.BTreeMap.{get_by}
use Rattle.std.specs.Cmp.Lexicographic.{slice_cmp}
use Rattle.std.specs.Ordering.{nat_cmp}
use Rattle.feed_reader.specs.Feed.{DocumentValue}
use Rattle.feed_reader.specs.declared.values.ForeignGone.{ForeignGone}
use Rattle.foreign_entries.specs.Occurrence.{Occurrence, occurrences}
use Rattle.foreign_entries.specs.declared.live.LiveEntries.{LiveEntries}
use Rattle.foreign_entries.specs.declared.live.Member.{Member}
use Rattle.foreign_entries.specs.declared.live.Kept.{Kept}

-- all tombstones, in the order of the documents and then by their places
abbrev pub tombstones : List DocumentValue → List ForeignGone
tombstones documents = flat_map (λ (d : DocumentValue). d.gone) documents

-- the entry's `updated` is later, or it is the same and that of its document is later
abbrev pub IsNewer : Occurrence → Occurrence → Type 0
IsNewer one other =
    (other.entry.updated <ℤ one.entry.updated)
    ⊎ ((other.entry.updated ≡ one.entry.updated) × (other.document.updated <ℤ one.document.updated))

-- the first entry of the identifier of which no other is newer, with the `updated` of its document
pub record IsNewestOf (all : List Occurrence) (id : List ℕ) (kept : Kept) : Type 0 where
  pub before : List Occurrence
  pub occurrence : Occurrence
  pub after : List Occurrence
  pub split : all ≡ before ++ occurrence ∷ after
  pub of : occurrence.entry.id ≡ id
  pub first : All (λ (o : Occurrence). o.entry.id ≡ id → IsNewer occurrence o) before
  pub newest : All (λ (o : Occurrence). o.entry.id ≡ id → IsNewer o occurrence → ⊥) after
  pub entry : kept.entry ≡ occurrence.entry
  pub document : kept.document_updated ≡ occurrence.document.updated

-- the latest `when` of the identifier's tombstones
pub record IsLatestOf (all : List ForeignGone) (id : List ℕ) (when : ℤ) : Type 0 where
  pub gone : ForeignGone
  pub there : Contains all gone
  pub of : gone.id ≡ id
  pub is : gone.when ≡ when
  pub latest : All (λ (g : ForeignGone). g.id ≡ id → g.when ≤ℤ when) all

-- no entry has the identifier
abbrev pub HasNoEntry : List Occurrence → List ℕ → Type 0
HasNoEntry all id = All (λ (o : Occurrence). o.entry.id ≢ id) all

-- no tombstone has the identifier
abbrev pub HasNoTombstone : List ForeignGone → List ℕ → Type 0
HasNoTombstone all id = All (λ (g : ForeignGone). g.id ≢ id) all

-- the newest entry and the latest tombstone of an identifier, where there are any
abbrev pub Keeps : List Occurrence → List ForeignGone → List ℕ → Member → Type 0
Keeps entries gone id m =
    MatchOption m.kept (HasNoEntry entries id) (IsNewestOf entries id)
    × MatchOption m.gone (HasNoTombstone gone id) (IsLatestOf gone id)

-- the newest entry and the latest tombstone of an identifier, of which at least one is present
pub record IsMemberOf (entries : List Occurrence) (gone : List ForeignGone) (id : List ℕ) (m : Member) : Type 0 where
  pub keeps : Keeps entries gone id m
  pub some : IsSome m.kept ⊎ IsSome m.gone

-- the member of an identifier, whose key has the same bytes
abbrev pub member_of : LiveEntries → List ℕ → Option Member
member_of live id = get_by (λ k. slice_cmp nat_cmp id k.items) live.members

-- each identifier in these entries and tombstones has its member in the map, and no other identifier has one
abbrev pub TalliesIn : List Occurrence → List ForeignGone → LiveEntries → Type 0
TalliesIn entries gone live =
    (id : List ℕ) → MatchOption (member_of live id) (HasNoEntry entries id × HasNoTombstone gone id)
    (IsMemberOf entries gone id)

-- For each identifier in the documents, the map has the newest entry, which is the first one of which no other is newer,
-- and the latest `when` of the tombstones.
pub record Tallies (documents : List DocumentValue) (live : LiveEntries) : Type 0 where
  pub members : TalliesIn (occurrences documents) (tombstones documents) live
