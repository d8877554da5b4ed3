use Rattle.std.proofs.lemmas.Result.{IfOk-weaker}
use Rattle.feed_life.proofs.OpenedLemmas.{opened-mirror}
use Rattle.feed_life.proofs.ShownLemmas.{mirror-shown}
use Rattle.feed_life.proofs.mirrors.show.Goals as goal

pub returns : goal.returns
returns c = IfOk-weaker c.outcome-outcome.result _ _ (λ outcome is history kept mirror.
    let opened = c.in_ok-mirror.ensures.opened kept mirror.loads in (
      mirror-shown c.args.head.now history kept c.open_mirror.new.disk c.in_ok-mirror.mirror outcome opened
          mirror.served is c.outcome-outcome.ensures.served,
      opened-mirror c.args.head.now kept c.open_mirror.new.disk c.in_ok-mirror.mirror opened history mirror.served,
    )) c.outcome-outcome.ensures.outcome
