use Rattle.std.proofs.Common.{◌≡◌, map, take, All}
use Rattle.atom_values.proofs.many.ManyCopies.copy.Given as goal

abbrev pub invariant-loop-item : goal.invariant-loop-item
invariant-loop-item g l = record {
  copied : map g.T.Copies.copied l.items.items ≡ map g.T.Copies.copied (take l.item-index l.item-items);
  rules : All g.T.Copies.rules (take l.item-index l.item-items);
}
