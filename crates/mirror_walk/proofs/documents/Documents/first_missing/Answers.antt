use Rattle.std.proofs.Common.{inl, inr, nat_cmp, ap, sym, ◌∙◌, arith}
use Rattle.std.specs.BTreeMap.{get}
use Rattle.mirror_walk.specs.Holding.{HeldValue, archive_at}
use Rattle.mirror_walk.proofs.GapLemmas.{gap-ends}
use Rattle.mirror_walk.proofs.IndexLemmas.{no-place}
use Rattle.mirror_walk.proofs.documents.Documents.first_missing.Goals as goal

pub returns-else-contains_key : goal.returns-else-contains_key
returns-else-contains_key c =
    let at = c.loop-at.at in
    let kept = c.self.inside.kept.items in
    let free = no-place kept (get nat_cmp c.self.inside.archives at) (archive_at kept at)
    (c.self.invariant.archives_there at) (sym c.if-contains_key.ensures) in
    gap-ends c.args.self.now.kept at c.args.number c.loop-at.invariant
    (inr (ap (λ (h : HeldValue). archive_at h.kept at) (sym c.self.view_is) ∙ free))

pub returns-after-loop-at : goal.returns-after-loop-at
returns-after-loop-at c =
    gap-ends c.args.self.now.kept c.loop-at.at c.args.number c.loop-at.invariant (inl (omega arith))
