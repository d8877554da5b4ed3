use Rattle.std.proofs.Common.{◌≡◌, ◌-◌}
use Rattle.feed_disk.specs.Raised.{RisesAtMost}
use Rattle.doc_source.specs.Intake.{TakesMore}
use Rattle.doc_source.proofs.part.read_head.Given as goal

abbrev pub invariant-loop-intake : goal.invariant-loop-intake
invariant-loop-intake g l = record {
  takes : TakesMore g.S.Source.observable l.fn.intake l.intake (g.S.Source.state l.fn.source) (g.S.Source.state l.source);
  read : RisesAtMost (l.intake.taken - l.fn.intake.taken) (g.S.Source.state l.fn.source).bytes_read
      (g.S.Source.state l.source).bytes_read;
  faults : (g.S.Source.state l.source).faults ≡ (g.S.Source.state l.fn.source).faults;
}

abbrev pub decreases-loop-intake : goal.decreases-loop-intake
decreases-loop-intake g l = l.intake.limit - l.intake.taken
