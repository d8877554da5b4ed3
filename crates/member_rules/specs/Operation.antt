-- The value of an operation that contracts see (RFC 5023 sections 9.2 to 9.4). An operation names one member, or sets a
-- setting and names none.
-- The definitions on lists of operations use its item, its moment and whether it makes a member, and not its variant.
use Rattle.std.specs.Prelude.{ℕ, ℤ, Option, Some, None, option_map, unwrap_or, Bool, true, false, ◌==◌}
use Rattle.atom_values.specs.Entry.{IsEntry}
use Rattle.atom_values.specs.Stamp.{IsStamp}
use Rattle.deleted_entries.specs.Item.{item_number}
use Rattle.deleted_entries.specs.declared.item.Item.{Item}
use Rattle.deleted_entries.specs.declared.item.Item.TheVariants.{Kept, Gone}
use Rattle.member_rules.specs.Removal.{IsRemoval}
use Rattle.member_rules.specs.Setting.{IsSetting}
use Rattle.member_rules.specs.declared.operation.Op.{Op}
use Rattle.member_rules.specs.declared.operation.Op.TheVariants.{Add, Change, Remove, Set}

-- the item that it leaves of the member that it names, if it names one
abbrev pub item_of : Op → Option Item
item_of (Add entry) = Some (Kept entry)
item_of (Change entry) = Some (Kept entry)
item_of (Remove removal) = Some (Gone removal.tombstone)
item_of (Set setting moment) = None

-- the number of the member that it names, if it names one
abbrev pub member_of : Op → Option ℕ
member_of operation = option_map item_number (item_of operation)

-- the same number, or 0 where it names no member
abbrev pub number_of : Op → ℕ
number_of operation = unwrap_or (member_of operation) 0

-- when it was accepted
abbrev pub moment_of : Op → ℤ
moment_of (Add entry) = entry.edited
moment_of (Change entry) = entry.edited
moment_of (Remove removal) = removal.moment
moment_of (Set setting moment) = moment

-- whether it makes a member
abbrev pub makes : Op → Bool
makes (Add entry) = true
makes (Change entry) = false
makes (Remove removal) = false
makes (Set setting moment) = false

-- whether it names this member
abbrev pub names : ℕ → Op → Bool
names number operation = elim (member_of operation) as (λ _. Bool) [ None ↦ false | Some other ↦ other == number ]

-- the rules that its types keep
abbrev pub IsOperation : Op → Type 0
IsOperation (Add entry) = IsEntry entry
IsOperation (Change entry) = IsEntry entry
IsOperation (Remove removal) = IsRemoval removal
IsOperation (Set setting moment) = IsSetting setting × IsStamp moment

-- the rules that the types of its entry or of its setting keep, where it has one
abbrev pub KeepsEntry : Op → Type 0
KeepsEntry (Add entry) = IsEntry entry
KeepsEntry (Change entry) = IsEntry entry
KeepsEntry (Remove removal) = Unit {0}
KeepsEntry (Set setting moment) = IsSetting setting
