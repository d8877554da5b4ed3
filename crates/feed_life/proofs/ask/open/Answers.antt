use Rattle.feed_life.proofs.AskLemmas.{store-opened}
use Rattle.feed_life.proofs.ask.open.Goals as goal

pub returns-in-Ok-clause-opened : goal.returns-in-Ok-clause-opened
returns-in-Ok-clause-opened c head history is_store =
    store-opened head history c.args.disk.now c.load.new.disk c.in-Ok.store c.stores_open_in_one_way.ensures is_store
    (c.in-Ok.ensures.opens tt) c.in-Ok.ensures.logs (c.in-Ok.ensures.same tt)
    (λ whole. (c.in-Ok.ensures.settled tt whole).settled) (λ whole. (c.in-Ok.ensures.settled tt whole).rests)
