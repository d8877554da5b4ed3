-- The lines that say what a document is and which items it has.
use Rattle.std.specs.Prelude.{ℕ, List, ◌++◌, flat_map, codes, decimal, true}
use Rattle.atom_values.specs.Entry.{EntryValue}
use Rattle.atom_values.specs.Escape.{escaped}
use Rattle.atom_values.specs.Stamp.{printed}
use Rattle.deleted_entries.specs.FeedId.{feed_text}
use Rattle.deleted_entries.specs.Tombstone.{TombstoneValue}
use Rattle.deleted_entries.specs.declared.item.Item.{Item}
use Rattle.deleted_entries.specs.declared.item.Item.TheVariants.{Kept, Gone}
use Rattle.atom_writer.specs.declared.doc.Kind.{Kind}
use Rattle.atom_writer.specs.declared.doc.Kind.TheVariants.{Subscription, Archive}
use Rattle.atom_writer.specs.Doc.{DocValue}

-- which document it is
abbrev pub kind_line : Kind → List ℕ
kind_line Subscription = codes "subscription\n"
kind_line (Archive number) = codes "archive " ++ decimal number ++ codes "\n"

-- the feed, the span, the newest archive before it, and the moment of its last operation
abbrev pub feed_line : DocValue → List ℕ
feed_line d = codes "feed " ++ feed_text d.name.id ++ codes "\n"

abbrev pub span_line : DocValue → List ℕ
span_line d = codes "span " ++ decimal d.span.first ++ codes " " ++ decimal d.span.last ++ codes "\n"

abbrev pub prev_line : DocValue → List ℕ
prev_line d = codes "prev " ++ decimal d.prev ++ codes "\n"

abbrev pub updated_line : DocValue → List ℕ
updated_line d = codes "updated " ++ printed d.updated ++ codes "\n"

unfoldable pub head_lines : DocValue → List ℕ
head_lines d = kind_line d.kind ++ feed_line d ++ span_line d ++ prev_line d ++ updated_line d

-- an entry by its number, its `updated` and its title, which is escaped as in an attribute
unfoldable pub entry_line : EntryValue → List ℕ
entry_line entry =
    codes "entry " ++ decimal entry.number ++ codes " " ++ printed entry.updated ++ codes " "
    ++ escaped true entry.title.value ++ codes "\n"

-- a deleted entry by its number and when it was deleted
unfoldable pub gone_line : TombstoneValue → List ℕ
gone_line tombstone =
    codes "gone " ++ decimal tombstone.number ++ codes " " ++ printed tombstone.when ++ codes "\n"

abbrev pub item_line : Item → List ℕ
item_line (Kept entry) = entry_line entry
item_line (Gone tombstone) = gone_line tombstone

-- the lines of a document
unfoldable pub summary : DocValue → List ℕ
summary d = head_lines d ++ flat_map item_line d.items
