-- The entries and tombstones of documents, as a reader of any feed takes them.
use Rattle.std.proofs.Common.{◌≡◌, inl, inr, List, [], ◌∷◌, map, refl, sym, subst}
use Rattle.std.specs.Prelude.{Contains}
use Rattle.atom_values.specs.Entry.{EntryValue}
use Rattle.atom_writer.specs.Doc.{DocValue}
use Rattle.atom_writer.specs.declared.doc.FeedName.{FeedName}
use Rattle.deleted_entries.specs.Tombstone.{TombstoneValue}
use Rattle.deleted_entries.specs.declared.item.Item.{Item}
use Rattle.deleted_entries.specs.declared.item.Item.TheVariants.{Kept, Gone}
use Rattle.canonical_feed.specs.Reading.{entry_of, foreign_document, foreign_entry, foreign_gone, gone_of}
use Rattle.feed_reader.specs.Feed.{DocumentValue}
use Rattle.feed_reader.specs.declared.values.ForeignEntry.{ForeignEntry}
use Rattle.feed_reader.specs.declared.values.ForeignGone.{ForeignGone}
use Rattle.foreign_entries.specs.Occurrence.{Occurrence, occurrences, occurrences_in}
use Rattle.published_rule.proofs.DatedLemmas.{Contains-first, Contains-none, Contains-split}
use Rattle.own_chain.proofs.ElementLemmas.{Contains-flat_map, Contains-from_flat_map, Contains-from_map, Contains-map}

-- the occurrence is of this entry of a document
abbrev pub occurrence_of : DocValue → EntryValue → Occurrence
occurrence_of d e = record { document = foreign_document d; entry = foreign_entry d.name e }

only : {X : Type 0} (x y : X) → Contains (x ∷ []) y → x ≡ y
only x y there = elim (Contains-split x y [] there) [ inl same ↦ same | inr behind ↦ absurd (Contains-none y behind) ]

-- a document of the list has the entry that occurs
pub record IsOccurrence (documents : List DocValue) (o : Occurrence) : Type 0 where
  pub document : DocValue
  pub entry : EntryValue
  pub there : Contains documents document
  pub kept : Contains document.items (Kept entry)
  pub is : o ≡ occurrence_of document entry

-- entries

kept-entry : (name : FeedName) (item : Item) (e : ForeignEntry) → Contains (entry_of name item) e
    → (entry : EntryValue) × (item ≡ Kept entry) × (foreign_entry name entry ≡ e)
kept-entry name (Kept entry) e there = (entry, refl, only (foreign_entry name entry) e there)
kept-entry name (Gone t) e there = absurd (Contains-none e there)

pub occurs : (documents : List DocValue) (d : DocValue) (entry : EntryValue) → Contains documents d
    → Contains d.items (Kept entry) → Contains (occurrences (map foreign_document documents)) (occurrence_of d entry)
occurs documents d entry there kept =
    let e = foreign_entry d.name entry in
    let has = Contains-flat_map (entry_of d.name) d.items (Kept entry) e kept (Contains-first e []) in
    Contains-flat_map occurrences_in (map foreign_document documents) (foreign_document d) (occurrence_of d entry)
    (Contains-map foreign_document documents d there)
    (Contains-map (λ (x : ForeignEntry). record { document = foreign_document d; entry = x })
    (foreign_document d).entries e has)

pub occurrence-is : (documents : List DocValue) (o : Occurrence)
    → Contains (occurrences (map foreign_document documents)) o → IsOccurrence documents o
occurrence-is documents o there =
    let (document, among, has) = Contains-from_flat_map occurrences_in (map foreign_document documents) o there in
    let (d, of_chain, is) = Contains-from_map foreign_document documents document among in
    let (e, in_entries, made) =
    Contains-from_map (λ (x : ForeignEntry). record { document = document; entry = x }) document.entries o has in
    let inside : Contains (foreign_document d).entries e =
    subst (λ (x : DocumentValue). Contains x.entries e) (sym is) in_entries in
    let (item, in_items, in_item) = Contains-from_flat_map (entry_of d.name) d.items e inside in
    let (entry, is_kept, is_entry) = kept-entry d.name item e in_item in
    record {
      document = d;
      entry = entry;
      there = of_chain;
      kept = subst (Contains d.items) is_kept in_items;
      is = cc;
    }

-- tombstones

gone-tombstone : (name : FeedName) (item : Item) (g : ForeignGone) → Contains (gone_of name item) g
    → (t : TombstoneValue) × (item ≡ Gone t) × (foreign_gone name t ≡ g)
gone-tombstone name (Kept entry) g there = absurd (Contains-none g there)
gone-tombstone name (Gone t) g there = (t, refl, only (foreign_gone name t) g there)

pub gone-there : (d : DocValue) (t : TombstoneValue) → Contains d.items (Gone t)
    → Contains (foreign_document d).gone (foreign_gone d.name t)
gone-there d t there =
    let g = foreign_gone d.name t in
    Contains-flat_map (gone_of d.name) d.items (Gone t) g there (Contains-first g [])

pub gone-is : (d : DocValue) (g : ForeignGone) → Contains (foreign_document d).gone g
    → (t : TombstoneValue) × Contains d.items (Gone t) × (foreign_gone d.name t ≡ g)
gone-is d g there =
    let (item, in_items, in_item) = Contains-from_flat_map (gone_of d.name) d.items g there in
    let (t, is_gone, is) = gone-tombstone d.name item g in_item in
    (t, subst (Contains d.items) is_gone in_items, is)
