use Rattle.std.proofs.Common.{◌∷◌, All, length, take}
use Rattle.std.specs.Prelude.{flat_map}
use Rattle.member_rules.proofs.codec.lists.push_list.Given as goal

abbrev pub invariant-loop-item : goal.invariant-loop-item
invariant-loop-item g l = record {
  added : g.W.Out.adds l.fn.out l.out (length l.items ∷ flat_map g.T.Coded.field.bytes (take l.item-index l.items));
  rules : All g.T.Coded.field.Is (take l.item-index l.items);
}
