use Rattle.std.proofs.Common.{reverse, sym, ◌∙◌, ap, subst}
use Rattle.std.proofs.lemmas.Result.{IfOk-weaker}
use Rattle.feed_disk.specs.AreaRecord.{IsRecorded, content_of}
use Rattle.feed_disk.proofs.CutLemmas.{recorded_settled, content-settled}
use Rattle.feed_disk.proofs.image.old_bytes.Goals as goal

pub content_after-requires : goal.content_after-requires
content_after-requires c =
    subst (IsRecorded c.args.first.now) (sym c.count_settled.ensures.settled)
    (recorded_settled c.args.first.now (reverse c.args.changes.now) c.requires)

pub returns : goal.returns
returns c =
    IfOk-weaker c.content_after.result _ _
    (λ bytes is. is ∙ ap (content_of c.args.first.now) c.count_settled.ensures.settled
    ∙ content-settled c.args.first.now (reverse c.args.changes.now))
    c.content_after.ensures
