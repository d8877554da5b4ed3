use Rattle.std.proofs.Common.{arith}
use Rattle.feed_disk.specs.declared.change.Change.TheVariants.{Sync}
use Rattle.feed_disk.proofs.ClockLemmas.{clock_either}
use Rattle.feed_disk.proofs.memory.MemoryDisk.record_sync.Goals as goal

pub invariant_of-self : goal.invariant_of-self
invariant_of-self c =
    clock_either c.sync.result c.self.inside.areas c.sync.new.self c.self.inside.calls c.args.area
    (Sync c.made-call.result) (omega (arith, c.made-call.ensures.calls)) c.self.invariant c.sync.ensures.ok
    c.sync.ensures.err
