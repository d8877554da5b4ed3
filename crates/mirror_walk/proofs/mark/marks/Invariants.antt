use Rattle.std.proofs.Common.{◌≡◌, map, take}
use Rattle.mirror_walk.specs.Marks.{AreFromOne, mark_of}
use Rattle.mirror_walk.proofs.mark.marks.Given as goal

abbrev pub invariant-loop-item : goal.invariant-loop-item
invariant-loop-item l = record {
  marks : l.marks.items ≡ map mark_of (take l.item-index l.items);
  from_one : AreFromOne l.marks.items;
}
