-- The items of a list of operations: one for each member that they name, from the member's last operation.
use Rattle.std.specs.Prelude.{List, [], ◌∷◌, reverse, Bool, false, if◌then◌else◌, Some, None}
use Rattle.std.specs.List.{list_any, filter_map}
use Rattle.deleted_entries.specs.declared.item.Item.{Item}
use Rattle.member_rules.specs.declared.operation.Op.{Op}
use Rattle.member_rules.specs.Operation.{item_of, member_of, names}

-- whether one of the later operations names the operation's member again
abbrev pub is_named_again : List Op → Op → Bool
is_named_again later operation =
    elim (member_of operation) as (λ _. Bool) [ None ↦ false | Some number ↦ list_any (names number) later ]

-- the operations that no later one names again
abbrev pub last_of_each : List Op → List Op
last_of_each [] = []
last_of_each (operation ∷ later) =
    if is_named_again later operation then last_of_each later else operation ∷ last_of_each later

-- their items, newest first; an operation that names no member has none
unfoldable pub items_of : List Op → List Item
items_of operations = filter_map item_of (reverse (last_of_each operations))
