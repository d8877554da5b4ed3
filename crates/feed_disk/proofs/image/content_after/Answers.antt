use Rattle.std.proofs.Common.{◌≤◌, length, take, reverse, ap, arith}
use Rattle.feed_disk.specs.AreaRecord.{content_of}
use Rattle.feed_disk.proofs.SplitLemmas.{recorded_at, recorded_write}
use Rattle.feed_disk.proofs.image.content_after.Goals as goal

pub overwrite-requires : goal.overwrite-requires
overwrite-requires c =
    let recorded = recorded_at c.args.changes.now c.loop-change.change-index c.change-item.result
    c.loop-change-test.true c.change-item.is c.args.first.now c.requires in
    let there : c.in-Write.at ≤ length (content_of c.args.first.now
    (reverse (take c.loop-change.change-index c.args.changes.now))) =
    recorded_write c.args.first.now c.change-item.result _ c.in-Write.call c.in-Write.at c.in-Write.from recorded
    c.in-Write.is in
    omega (arith, there, ap length c.loop-change.invariant)
