use Rattle.std.proofs.Common.{◌≡◌, List, [], Result, Ok, Err}
use Rattle.std.specs.Prelude.{IfOk}
use Rattle.mirror_walk.specs.declared.base_map.BaseMap.{BaseMap}
use Rattle.mirror_walk.specs.Holding.{KeptValue}
use Rattle.mirror_walk.specs.Index.{IsBare, IsBaseMap, LaysOver, replaced_number, replaced_place}
use Rattle.mirror_walk.proofs.BaseLemmas.{bare-lifted, bare-none}
use Rattle.mirror_walk.proofs.documents.Documents.below_best.Goals as goal

lifted : {E : Type 0} (kept : List KeptValue) (old : BaseMap) (result : Result BaseMap E)
    → IsBaseMap kept old
    → IfOk result (λ new. new.last ≡ old.last)
    → IfOk result (λ new. LaysOver replaced_number replaced_place old.replaced.items old.entries new.entries)
    → IfOk result (λ new. new.replaced.items ≡ []) → IfOk result (IsBare kept)
lifted kept old (Ok new) is last restored bare = bare-lifted kept old new is last restored bare
lifted kept old (Err fault) is last restored bare = tt

pub returns-then-map-prev-clause-bare : goal.returns-then-map-prev-clause-bare
returns-then-map-prev-clause-bare c =
    lifted c.args.self.now.kept c.args.map c.lifted.result c.requires c.lifted.ensures.last
    c.lifted.ensures.restored c.lifted.ensures.bare

pub returns-else-map-prev-clause-bare : goal.returns-else-map-prev-clause-bare
returns-else-map-prev-clause-bare c =
    bare-none c.args.self.now.kept c.new.result c.new.ensures.last c.new.ensures.empty c.new.ensures.bare
