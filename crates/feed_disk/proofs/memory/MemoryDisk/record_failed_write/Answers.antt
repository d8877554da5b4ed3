use Rattle.std.proofs.Common.{arith}
use Rattle.feed_disk.specs.declared.change.Change.TheVariants.{FailedWrite}
use Rattle.feed_disk.proofs.ClockLemmas.{clock_either}
use Rattle.feed_disk.proofs.memory.MemoryDisk.record_failed_write.Goals as goal

pub invariant_of-self : goal.invariant_of-self
invariant_of-self c =
    clock_either c.fail_write-recorded.result c.self.inside.areas c.fail_write-recorded.new.self c.self.inside.calls
    c.args.area
    (FailedWrite c.made-call.result c.args.at c.args.from.now) (omega (arith, c.made-call.ensures.calls))
    c.self.invariant c.fail_write-recorded.ensures.ok c.fail_write-recorded.ensures.err

pub invariant_of-self-else-is_err : goal.invariant_of-self-else-is_err
invariant_of-self-else-is_err c =
    clock_either c.fail_write-recorded.result c.self.inside.areas c.fail_write-recorded.new.self c.self.inside.calls
    c.args.area
    (FailedWrite c.made-call.result c.args.at c.args.from.now) (omega (arith, c.made-call.ensures.calls))
    c.self.invariant c.fail_write-recorded.ensures.ok c.fail_write-recorded.ensures.err
