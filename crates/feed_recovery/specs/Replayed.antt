-- The history that is read from the payloads of a journal, as contracts see it.
use Rattle.std.specs.Prelude.{ℕ, List, Option}
use Rattle.feed_journal.specs.declared.extent.Extent.{Extent}
use Rattle.member_rules.specs.Head.{HeadValue, IsHead}
use Rattle.member_rules.specs.History.{IsLawful}
use Rattle.member_rules.specs.Table.{IsTableOf, Table}
use Rattle.member_rules.specs.declared.operation.Op.{Op}

-- the head and the operations; the table of the members; the place of each member's last entry; and the first seal, counted
-- from 1, that isn't the text of its archive
pub record ReplayedValue : Type 0 where
  pub head : HeadValue
  pub history : List Op
  pub members : Table
  pub places : List Extent
  pub wrong : Option ℕ

-- the rules that it keeps
pub record KeepsReplayed (replayed : ReplayedValue) : Type 0 where
  pub head : IsHead replayed.head
  pub lawful : IsLawful replayed.head replayed.history
  pub members : IsTableOf replayed.members replayed.head.created replayed.history
