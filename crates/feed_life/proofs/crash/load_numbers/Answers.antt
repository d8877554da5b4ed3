use Rattle.feed_life.proofs.AskLemmas.{opened-left}
use Rattle.feed_life.proofs.crash.load_numbers.Goals as goal

pub returns-clause-left : goal.returns-clause-left
returns-clause-left c head history is_store =
    opened-left head history c.args.disk.now c.open.new.disk c.in_ok-store.store c.version.result c.sealed.result
    (c.in_ok-store.ensures.opened head history is_store) c.version.ensures c.sealed.ensures
