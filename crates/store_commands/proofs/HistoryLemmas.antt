-- The history that lines make, the table of its members, and its window.
use Rattle.std.proofs.Common.{◌≡◌, ℕ, List, [], ℤ, ap, arith}
use Rattle.std.proofs.lemmas.List.Elements.{All-nil}
use Rattle.archive_sealer.specs.Window.{WindowValue}
use Rattle.member_rules.specs.declared.operation.Op.{Op}
use Rattle.member_rules.specs.Head.{HeadValue}
use Rattle.member_rules.specs.History.{AreFollowing, IsLawful, IsSmall}
use Rattle.member_rules.specs.Operation.{IsOperation}
use Rattle.member_rules.specs.Table.{IsTableOf, Table}

-- before the first line
pub lawful-none : (head : HeadValue) → AreFollowing head.created [] → IsLawful head []
lawful-none head following = record {
  few = omega arith;
  following = following;
  small = All-nil (IsSmall head.name);
  operations = All-nil IsOperation;
}

-- room for more members or operations changes nothing else
pub IsTableOf-with_room : (table : Table) (spare : ℕ) (created : ℤ) (history : List Op) →
    IsTableOf table created history → IsTableOf (record table { spare = spare }) created history
IsTableOf-with_room table spare created history t = record {
  following = t.following;
  count = t.count;
  states = t.states;
  edited = t.edited;
  recent = t.recent;
  last = t.last;
  live = t.live;
  operations = t.operations;
}

pub history-with_room : (window new : WindowValue) → new ≡ record window { spare = new.spare } →
    new.history ≡ window.history
history-with_room window new same = ap (λ (w : WindowValue). w.history) same
