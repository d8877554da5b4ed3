-- The places of the live entries in the documents of the lines.
use Rattle.std.specs.Prelude.{◌≡◌, ℕ, ◌<◌, List, Option, Some, None, slice_get}
use Rattle.std.specs.BTreeMap.{BTreeMap, get}
use Rattle.std.specs.Ordering.{nat_cmp}
use Rattle.atom_values.specs.Entry.{EntryValue}
use Rattle.atom_writer.specs.Doc.{DocValue}
use Rattle.deleted_entries.specs.declared.item.Item.TheVariants.{Kept}
use Rattle.member_rules.specs.Shows.{live_of}
use Rattle.mirror_walk.specs.declared.mark.ItemMark.{ItemMark}
use Rattle.mirror_walk.specs.declared.mark.ItemMark.TheVariants.{Live, Gone}
use Rattle.coverage_auditor.specs.declared.live.EntryPlace.{EntryPlace}

-- the item at a place is this entry
pub record HasEntryAt (documents : List DocValue) (place : EntryPlace) (entry : EntryValue) : Type 0 where
  pub document : DocValue
  pub there : slice_get documents place.document ≡ Some document
  pub item : slice_get document.items place.item ≡ Some (Kept entry)

abbrev pub ListsEntry : List DocValue → Option EntryPlace → Option EntryValue → Type 0
ListsEntry documents None None = Unit {0}
ListsEntry documents None (Some entry) = ⊥
ListsEntry documents (Some place) None = ⊥
ListsEntry documents (Some place) (Some entry) = HasEntryAt documents place entry

-- the map has the places of the live entries of some of the documents
abbrev pub HasEntries : List DocValue → List DocValue → BTreeMap ℕ EntryPlace → Type 0
HasEntries documents listed live =
    (number : ℕ) → ListsEntry documents (get nat_cmp live number) (live_of listed number)

-- the place of an item's entry; a tombstone has none
abbrev pub entry_place : ℕ → ℕ → ItemMark → Option EntryPlace
entry_place document at (Live number) = Some record { document = document; item = at }
entry_place document at (Gone number) = None

-- no member with a number after this one is live
abbrev pub IsLastLive : List DocValue → ℕ → Type 0
IsLastLive documents after = (number : ℕ) → after < number → live_of documents number ≡ None

-- the entry at the place is live, and no live member's number is between
pub record IsNextPlace (documents : List DocValue) (after next : ℕ) (place : EntryPlace) : Type 0 where
  pub later : after < next
  pub entry : EntryValue
  pub live : live_of documents next ≡ Some entry
  pub there : HasEntryAt documents place entry
  pub first : (number : ℕ) → after < number → number < next → live_of documents number ≡ None
