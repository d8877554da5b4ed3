use Rattle.std.proofs.Common.{take, refl, sym, ap, ◌∙◌}
use Rattle.member_rules.specs.Fold.{Fold, fold_of}
use Rattle.member_rules.proofs.PlainLemmas.{fold_of-more}
use Rattle.member_rules.proofs.plain.plain_gone.Goals as goal

pub loop-operation-init : goal.loop-operation-init
unfolding fold_of
loop-operation-init c = refl

pub loop-operation-preserved : goal.loop-operation-preserved
loop-operation-preserved c =
    let more = fold_of-more c.args.history.now c.loop-operation.operation-index c.operation-item.result
    c.loop-operation-test.true c.operation-item.is in
    c.gone_after-gone.ensures (fold_of (take c.loop-operation.operation-index c.args.history.now))
    c.loop-operation.invariant ∙ ap (λ (members : Fold). members.gone c.args.number) (sym more)
