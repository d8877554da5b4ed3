use Rattle.std.proofs.Common.{arith}
use Rattle.std.proofs.lemmas.Result.{IfOk-weaker}
use Rattle.feed_journal.proofs.CallLemmas.{calls_then}
use Rattle.feed_journal.proofs.log.Log.look.Goals as goal

pub returns-clause-calls : goal.returns-clause-calls
returns-clause-calls g c = IfOk-weaker c.scan.result _ _ (λ log made.
    calls_then (g.D.Disk.state c.args.disk.now) (g.D.Disk.state c.size.new.self) (g.D.Disk.state c.scan.new.disk) 0 1
    log.calls 1 (record { clock = c.size.ensures.counts.clock; calls = omega arith }) made) c.scan.ensures.calls
