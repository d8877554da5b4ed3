use Rattle.feed_disk.proofs.FileLemmas.{counts_failed}
use Rattle.feed_disk.proofs.file_disk.FileDiskDisk.size.Goals as goal

pub returns-then-count_call-clause-counts : goal.returns-then-count_call-clause-counts
returns-then-count_call-clause-counts g c =
    let call = c.count_call.ensures in
    rw (← c.self.view_is) (counts_failed c.self.inside.counts c.count_call.new.self _ call.clock call.later
    (call.failed c.if-count_call.true) call.risen)
