use Rattle.std.proofs.lemmas.Result.{on_ok_weaker}
use Rattle.feed_life.proofs.GiftLemmas.{gift-left}
use Rattle.feed_life.proofs.mirrors.give.Goals as goal

pub returns : goal.returns
returns c = on_ok_weaker c.offer-offered.result (λ runs history kept sent mirror.
    gift-left c.args.head.now history c.args.doc.now kept c.args.disk.now c.open_mirror.new.disk c.offer-offered.new.disk
    (runs c.args.head.now history kept sent mirror.served (c.in_ok-mirror.ensures.opened kept mirror.loads)))
    c.offer-offered.ensures.runs
