use Rattle.std.proofs.Common.{arith}
use Rattle.feed_disk.specs.declared.change.Change.TheVariants.{Write}
use Rattle.feed_disk.proofs.ClockLemmas.{clock_either}
use Rattle.feed_disk.proofs.memory.MemoryDisk.record_write.Goals as goal

pub invariant_of-self : goal.invariant_of-self
invariant_of-self c =
    clock_either c.write.result c.self.inside.areas c.write.new.self c.self.inside.calls c.args.area
    (Write c.made-call.result c.args.at c.args.from.now) (omega (arith, c.made-call.ensures.calls)) c.self.invariant
    c.write.ensures.ok c.write.ensures.err
