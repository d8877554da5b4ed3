use Rattle.std.proofs.Common.{arith}
use Rattle.feed_recovery.proofs.HistoryLemmas.{follow-below}
use Rattle.store_scrub.proofs.sound.verdict.Goals as goal

pub overflow_sub-result : goal.overflow_sub-result
overflow_sub-result c =
    let log = c.args.journal.now in
    omega (arith, c.size.ensures.size, follow-below 0 log.extents log.size c.size.ensures.rules.follow)

pub overflow_sub-result-then-not-is_whole-2 : goal.overflow_sub-result-then-not-is_whole-2
overflow_sub-result-then-not-is_whole-2 c =
    let log = c.args.seals.now in
    let size = c.size-then-not-is_whole-2.ensures in
    omega (arith, size.size, follow-below 0 log.extents log.size size.rules.follow)
