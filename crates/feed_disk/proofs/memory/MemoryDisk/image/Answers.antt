use Rattle.std.proofs.lemmas.Result.{IfOk-weaker}
use Rattle.feed_disk.proofs.CrashLemmas.{among, reached}
use Rattle.feed_disk.proofs.memory.MemoryDisk.image.Goals as goal

pub returns-clause-among : goal.returns-clause-among
returns-clause-among c =
    IfOk-weaker c.crashed.result _ _ (λ d is. among c.args.self.now c.args.call c.requires c.args.choice.now d is)
    c.crashed.ensures.disk

pub returns-clause-reached : goal.returns-clause-reached
returns-clause-reached c =
    IfOk-weaker c.crashed.result _ _
    (λ d recorded. λ below. reached c.args.self.now c.args.call c.requires below recorded) c.crashed.ensures.recorded
