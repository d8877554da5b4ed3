use Rattle.std.proofs.Common.{Option, Some, subst, sym, arith}
use Rattle.mirror_walk.specs.Index.{HasBest}
use Rattle.mirror_walk.specs.declared.documents.Best.{Best}
use Rattle.mirror_walk.specs.Holding.{HeldValue, best_of}
use Rattle.mirror_walk.proofs.MissingLemmas.{held-above}
use Rattle.mirror_walk.proofs.documents.Documents.below.Goals as goal

pub returns-in-Some-Some-clause-passed : goal.returns-in-Some-Some-clause-passed
returns-in-Some-Some-clause-passed c n more within =
    let found = c.in-Some-Some.best.now in
    let best = subst (λ (h : HeldValue). HasBest h.kept (Some c.in-Some-Some.field-0-0) (best_of h.kept))
    c.self.view_is
    (subst (λ (b : Option Best). HasBest c.self.inside.kept.items b (best_of c.self.inside.kept.items))
    c.in-Some-Some.is-0 c.self.invariant.best_there) in
    held-above c.args.self.now.kept c.in-Some-Some.field-0-0 found best (sym c.in-Some-Some.ensures) n more
    (omega arith)
