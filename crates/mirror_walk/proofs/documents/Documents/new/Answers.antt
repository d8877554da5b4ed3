use Rattle.mirror_walk.proofs.BaseLemmas.{bare-none, base-bare}
use Rattle.mirror_walk.proofs.IndexLemmas.{indexed-none}
use Rattle.mirror_walk.proofs.documents.Documents.new.Goals as goal

pub invariant_of-result : goal.invariant_of-result
invariant_of-result c =
    let kept = c.new.result.items in
    let bare = c.new-3.ensures in
    indexed-none kept c.new-2.result c.new-3.result c.new.ensures.items c.new-2.ensures.empty
    (base-bare kept c.new-3.result (bare-none kept c.new-3.result bare.last bare.empty bare.bare))
