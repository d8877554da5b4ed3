use Rattle.std.proofs.Common.{◌≡◌, map, take}
use Rattle.mirror_walk.specs.Index.{replaced_in}
use Rattle.mirror_walk.proofs.base_map.replaced_by.Given as goal

abbrev pub invariant-loop-item : goal.invariant-loop-item
invariant-loop-item l = l.replaced.items ≡ map (replaced_in l.entries) (take l.item-index l.items)
