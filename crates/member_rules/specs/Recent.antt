-- The members in the order of their last operations.
use Rattle.std.specs.Prelude.{ℕ, List, reverse}
use Rattle.std.specs.List.{filter_map}
use Rattle.member_rules.specs.declared.operation.Op.{Op}
use Rattle.member_rules.specs.Items.{last_of_each}
use Rattle.member_rules.specs.Operation.{member_of}

-- the numbers of the members that the operations name, the one named last first
unfoldable pub recent_members : List Op → List ℕ
recent_members operations = filter_map member_of (reverse (last_of_each operations))
