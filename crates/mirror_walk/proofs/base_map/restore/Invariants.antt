use Rattle.mirror_walk.specs.Index.{replaced_number, replaced_place}
use Rattle.mirror_walk.proofs.ListedItemsLemmas.{LaidUpTo}
use Rattle.mirror_walk.proofs.base_map.restore.Given as goal

abbrev pub invariant-loop-before : goal.invariant-loop-before
invariant-loop-before l =
    LaidUpTo replaced_number replaced_place l.replaced l.before-index l.initial.entries l.entries
