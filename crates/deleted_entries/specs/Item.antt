-- The items of a document in contracts.
use Rattle.std.specs.Prelude.{ℕ}
use Rattle.atom_values.specs.Entry.{IsEntry}
use Rattle.deleted_entries.specs.declared.item.Item.{Item}
use Rattle.deleted_entries.specs.declared.item.Item.TheVariants.{Kept, Gone}
use Rattle.deleted_entries.specs.Tombstone.{IsTombstone}

-- the number of the item's member
abbrev pub item_number : Item → ℕ
item_number (Kept entry) = entry.number
item_number (Gone tombstone) = tombstone.number

-- the invariants of an item's types
abbrev pub IsItem : Item → Type 0
IsItem (Kept entry) = IsEntry entry
IsItem (Gone tombstone) = IsTombstone tombstone
