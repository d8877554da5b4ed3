use Rattle.std.proofs.lemmas.Result.{on_ok_weaker}
use Rattle.feed_life.proofs.WalkedLemmas.{mirror-ready, walk-left}
use Rattle.feed_life.proofs.walks.walk_by.Goals as goal

pub returns : goal.returns
returns c =
    on_ok_weaker c.walk_over-walked.result (λ runs history kept has is_mirror.
    walk-left c.args.head.now history kept c.args.disk.now c.open_mirror.new.disk c.walk_over-walked.new.disk
    (runs c.args.head.now history kept
    (mirror-ready c.args.head.now history kept c.args.disk.now c.open_mirror.new.disk c.in_ok-mirror.mirror
    c.args.documents.now has is_mirror (c.in_ok-mirror.ensures.opened kept is_mirror.loads)))) c.walk_over-walked.ensures.runs
