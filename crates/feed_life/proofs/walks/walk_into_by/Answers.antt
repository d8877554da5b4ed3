use Rattle.std.proofs.lemmas.Result.{IfOk-weaker}
use Rattle.feed_life.proofs.WalkedLemmas.{mirror-ready}
use Rattle.feed_life.proofs.walks.walk_into_by.Goals as goal

pub returns : goal.returns
returns c =
    IfOk-weaker c.walk_amid-left.result _ _ (λ left walked history kept has is_mirror.
    walked c.args.head.now history kept c.args.disk.now c.in_ok-mirror.ensures.same
    (mirror-ready c.args.head.now history kept c.args.disk.now c.open_mirror.new.disk c.in_ok-mirror.mirror
    c.args.documents.now has is_mirror (c.in_ok-mirror.ensures.opened kept is_mirror.loads))) c.walk_amid-left.ensures
