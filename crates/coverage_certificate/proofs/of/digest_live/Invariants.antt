use Rattle.std.proofs.Common.{◌-◌, ◌^◌}
use Rattle.coverage_certificate.proofs.HeldLemmas.{IsDigesting}
use Rattle.coverage_certificate.proofs.of.digest_live.Given as goal

abbrev pub invariant-loop-number : goal.invariant-loop-number
invariant-loop-number g l = IsDigesting g.D.Disk.observable l.fn.mirror l.name (g.D.Disk.state l.fn.disk)
    (g.D.Disk.state l.disk) l.mirror l.hasher l.count l.after

abbrev pub decreases-loop-number : goal.decreases-loop-number
decreases-loop-number g l = 2 ^ 32 - l.after
