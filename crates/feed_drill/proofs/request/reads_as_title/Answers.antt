use Rattle.feed_drill.proofs.RequestLemmas.{read-alone}
use Rattle.feed_drill.proofs.request.reads_as_title.Goals as goal

pub returns-in-Ok : goal.returns-in-Ok
returns-in-Ok c right =
    read-alone c.args.bytes.now c.args.title.now c.in-Ok.draft c.read_entry.result c.in-Ok.is c.read_entry.ensures.only
    (c.is_titled-titled.ensures right)
