-- The index of a mirror, by which it finds the documents that it took without a search.
use Rattle.std.specs.Prelude.{◌≡◌, ◌≢◌, ◌≤◌, ◌<◌, ◌^◌, ℕ, nat_eq, List, [], ◌∷◌, ◌++◌, Option, Some, None}
use Rattle.std.specs.Prelude.{IsSome, Bool, IsTrue, MatchOption, unwrap_or, option_map, slice_get, All, map}
use Rattle.std.specs.BTreeMap.{BTreeMap, get}
use Rattle.std.specs.List.{IsDistinct}
use Rattle.std.specs.Ordering.{nat_cmp}
use Rattle.atom_values.specs.Entry.{EntryValue}
use Rattle.atom_writer.specs.Doc.{DocValue}
use Rattle.atom_writer.specs.declared.doc.FeedName.{FeedName}
use Rattle.deleted_entries.specs.declared.item.Item.TheVariants.{Kept as KeptItem}
use Rattle.member_rules.specs.Shows.{live_of}
use Rattle.mirror_walk.specs.declared.base_map.BaseMap.{BaseMap}
use Rattle.mirror_walk.specs.declared.base_map.Replaced.{Replaced}
use Rattle.mirror_walk.specs.declared.documents.Best.{Best}
use Rattle.mirror_walk.specs.declared.documents.EntryPlace.{EntryPlace}
use Rattle.mirror_walk.specs.declared.mark.ItemMark.{ItemMark}
use Rattle.mirror_walk.specs.declared.mark.ItemMark.TheVariants.{Live, Gone}
use Rattle.mirror_walk.specs.Holding.{KeptValue, archive_at, archives_from, best_of, chain_of, first_missing}
use Rattle.mirror_walk.specs.Holding.{gap_from, name_of_best}
use Rattle.mirror_walk.specs.Listing.{IsShownIn}
use Rattle.mirror_walk.specs.Marks.{marked_number}

-- the index is that of a document among those taken
pub record IsPlaceOf (kept : List KeptValue) (at : ℕ) (found : Option KeptValue) : Type 0 where
  pub there : slice_get kept at ≡ found
  pub some : IsSome found

abbrev pub HasPlace : List KeptValue → Option ℕ → Option KeptValue → Type 0
HasPlace kept place found = MatchOption place (found ≡ None) (λ at. IsPlaceOf kept at found)

-- the index of the best subscription document, and the number of the archive that it needs and that isn't
-- held, or 0
pub record IsBestOf (kept : List KeptValue) (best : Best) (found : KeptValue) : Type 0 where
  pub there : slice_get kept best.at ≡ Some found
  pub missing : best.missing ≡ unwrap_or (gap_from kept found.document.prev) 0

abbrev pub HasBest : List KeptValue → Option Best → Option KeptValue → Type 0
HasBest kept None None = Unit {0}
HasBest kept None (Some found) = ⊥
HasBest kept (Some best) None = ⊥
HasBest kept (Some best) (Some found) = IsBestOf kept best found

-- the best subscription document once a new document is held
abbrev pub HasBestAfter : List KeptValue → DocValue → Option Best → Type 0
HasBestAfter kept document best = (given : KeptValue) → given.document ≡ document
    → HasBest (kept ++ given ∷ []) best (best_of (kept ++ given ∷ []))

-- the item at a place is this entry
pub record HasEntryAt (kept : List KeptValue) (place : EntryPlace) (entry : EntryValue) : Type 0 where
  pub document : KeptValue
  pub there : slice_get kept place.document ≡ Some document
  pub item : slice_get document.document.items place.item ≡ Some (KeptItem entry)

-- a member's entry among some of the documents has its place in the document that shows it
abbrev pub ListsEntry : List KeptValue → List DocValue → ℕ → Option EntryPlace → Option EntryValue → Type 0
ListsEntry kept documents number None None = Unit {0}
ListsEntry kept documents number None (Some entry) = ⊥
ListsEntry kept documents number (Some place) None = ⊥
ListsEntry kept documents number (Some place) (Some entry) =
    HasEntryAt kept place entry × IsShownIn kept documents number place.document

-- the map has the places of the live entries of some of the documents
abbrev pub HasEntries : List KeptValue → List DocValue → BTreeMap ℕ EntryPlace → Type 0
HasEntries kept documents live =
    (number : ℕ) → ListsEntry kept documents number (get nat_cmp live number) (live_of documents number)

-- each key is a member's number
abbrev pub AreMembers : {P : Type 0} → BTreeMap ℕ P → Type 0
AreMembers live = (number : ℕ) → IsSome (get nat_cmp live number) → (1 ≤ number) × (number < 2 ^ 32)

-- the place of an item's entry; a tombstone has none
abbrev pub entry_place : ℕ → ℕ → ItemMark → Option EntryPlace
entry_place document at (Live number) = Some record { document = document; item = at }
entry_place document at (Gone number) = None

-- the map has the places of a document's items, and is as before at all other numbers
pub record LaysOver {X P : Type 0} (number_of : X → ℕ) (place : ℕ → X → Option P) (items : List X)
    (old new : BTreeMap ℕ P) : Type 0 where
  pub named : (at : ℕ) (item : X) → slice_get items at ≡ Some item
      → get nat_cmp new (number_of item) ≡ place at item
  pub others : (number : ℕ) → All (λ item. number_of item ≢ number) items
      → get nat_cmp new number ≡ get nat_cmp old number

-- the member of an item that was laid over a map, and the place that the map had for the member before
abbrev pub replaced_number : Replaced → ℕ
replaced_number replaced = replaced.number

abbrev pub replaced_place : ℕ → Replaced → Option EntryPlace
replaced_place at replaced = replaced.place

-- what an item replaces that is laid over these entries
abbrev pub replaced_in : BTreeMap ℕ EntryPlace → ItemMark → Replaced
replaced_in entries item =
    record { number = marked_number item; place = get nat_cmp entries (marked_number item) }

-- the archives from 1 up to `last` are held, and the map has the places of the entries that they show
pub record HasArchives (kept : List KeptValue) (last : ℕ) (entries : BTreeMap ℕ EntryPlace) : Type 0 where
  pub held : (number : ℕ) → 1 ≤ number → number ≤ last → IsSome (archive_at kept number)
  pub shown : HasEntries kept (archives_from kept last) entries
  pub members : AreMembers entries

-- a base map with archives alone
pub record IsBare (kept : List KeptValue) (base : BaseMap) : Type 0 where
  pub archives : HasArchives kept base.last base.entries
  pub bare : base.replaced.items ≡ []

-- A base map, over which a subscription document may be laid. Once all that it replaced is put back, the map
-- has archives alone.
pub record IsBaseMap (kept : List KeptValue) (base : BaseMap) : Type 0 where
  pub distinct : IsDistinct nat_eq (map replaced_number base.replaced.items)
  pub under : BTreeMap ℕ EntryPlace
  pub restores : LaysOver replaced_number replaced_place base.replaced.items base.entries under
  pub archives : HasArchives kept base.last under

-- the map has the live entries, and nothing is missing
pub record IsListing (kept : List KeptValue) (live : BTreeMap ℕ EntryPlace) : Type 0 where
  pub whole : first_missing kept ≡ None
  pub entries : HasEntries kept (chain_of kept) live
  pub members : AreMembers live

-- the identifier of the feed that all documents belong to
abbrev pub feed_of : List KeptValue → Option (List ℕ)
feed_of kept = option_map (λ (first : KeptValue). first.document.name.id) (slice_get kept 0)

-- the indexes of the archives and of the best subscription document, the base map, which has the live entries if
-- they are listed, and the feed's identifier and name
pub record IsIndexed (kept : List KeptValue) (archives : BTreeMap ℕ ℕ) (best : Option Best) (base : BaseMap)
    (listed : Bool) (feed : Option (List ℕ)) (name : Option FeedName) : Type 0 where
  pub archives_there : (number : ℕ) → HasPlace kept (get nat_cmp archives number) (archive_at kept number)
  pub best_there : HasBest kept best (best_of kept)
  pub base_there : IsBaseMap kept base
  pub listing : IsTrue listed → IsListing kept base.entries
  pub feed_there : feed ≡ feed_of kept
  pub name_there : name ≡ name_of_best kept
