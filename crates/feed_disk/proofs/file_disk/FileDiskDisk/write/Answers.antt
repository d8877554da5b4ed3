use Rattle.std.proofs.Common.{arith}
use Rattle.feed_disk.proofs.FileLemmas.{counts_failed, passes_torn}
use Rattle.feed_disk.proofs.file_disk.FileDiskDisk.write.Goals as goal

pub returns-then-count_call-clause-counts : goal.returns-then-count_call-clause-counts
returns-then-count_call-clause-counts g c =
    let call = c.count_call.ensures in
    rw (← c.self.view_is) (counts_failed c.self.inside.counts c.count_call.new.self _ call.clock call.later
    (call.failed c.if-count_call.true) call.risen)

pub returns-then-count_call-clause-area : goal.returns-then-count_call-clause-area
returns-then-count_call-clause-area g c =
    let call = c.count_call.ensures in
    rw (← c.self.view_is)
    (passes_torn c.self.inside.counts c.count_call.new.self c.args.area c.args.at _ call.clock call.later)

pub returns-clause-area : goal.returns-clause-area
returns-clause-area g c =
    let call = c.count_call.ensures in
    let end = c.count_result.ensures in
    rw (← c.self.view_is) (passes_torn c.self.inside.counts c.count_result.new.self c.args.area c.args.at _
    (omega (arith, end.clock, call.clock)) (omega (arith, end.clock, call.later)))
