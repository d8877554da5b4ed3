use Rattle.std.proofs.Common.{All, take, map}
use Rattle.deleted_entries.specs.Item.{IsItem}
use Rattle.atom_writer.specs.Pieces.{item_piece, joined}
use Rattle.atom_writer.proofs.write.push_items.Given as goal

abbrev pub invariant-loop-item : goal.invariant-loop-item
invariant-loop-item g l = record {
  added : g.W.Out.adds l.fn.out l.out (joined (map (item_piece l.name) (take l.item-index l.items)));
  rules : All IsItem (take l.item-index l.items);
}
