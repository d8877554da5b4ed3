-- What a reader of any server's feeds takes from a document of this project's feeds.
use Rattle.std.specs.Prelude.{ℕ, ◌==◌, List, [], ◌∷◌, ◌++◌, flat_map, Option, Some, None, if◌then◌else◌, codes}
use Rattle.atom_values.specs.Entry.{EntryValue}
use Rattle.chain_links.specs.Address.{printed}
use Rattle.chain_links.specs.declared.address.Address.TheVariants.{Archive}
use Rattle.deleted_entries.specs.FeedId.{feed_text, member_id}
use Rattle.deleted_entries.specs.Tombstone.{TombstoneValue}
use Rattle.deleted_entries.specs.declared.item.Item.{Item}
use Rattle.deleted_entries.specs.declared.item.Item.TheVariants.{Kept, Gone}
use Rattle.atom_writer.specs.declared.doc.FeedName.{FeedName}
use Rattle.atom_writer.specs.Doc.{DocValue}
use Rattle.feed_reader.specs.Feed.{DocumentValue}
use Rattle.feed_reader.specs.declared.values.ForeignEntry.{ForeignEntry}
use Rattle.feed_reader.specs.declared.values.ForeignGone.{ForeignGone}

-- the identifier, the title's text and the date of a member's entry
abbrev pub foreign_entry : FeedName → EntryValue → ForeignEntry
foreign_entry name e = record { id = member_id name.id e.number; title = e.title.value; updated = e.updated }

abbrev pub foreign_gone : FeedName → TombstoneValue → ForeignGone
foreign_gone name t = record { id = member_id name.id t.number; when = t.when }

abbrev pub entry_of : FeedName → Item → List ForeignEntry
entry_of name (Kept e) = foreign_entry name e ∷ []
entry_of name (Gone t) = []

abbrev pub gone_of : FeedName → Item → List ForeignGone
gone_of name (Kept e) = []
gone_of name (Gone t) = foreign_gone name t ∷ []

-- the address of the archive before the document
abbrev pub prev_address : DocValue → Option (List ℕ)
prev_address d = if d.prev == 0 then None else Some (printed d.name.base (Archive d.prev))

abbrev pub foreign_document : DocValue → DocumentValue
foreign_document d = record {
  id = codes "urn:uuid:" ++ feed_text d.name.id;
  updated = d.updated;
  prev = prev_address d;
  entries = flat_map (entry_of d.name) d.items;
  gone = flat_map (gone_of d.name) d.items;
}
