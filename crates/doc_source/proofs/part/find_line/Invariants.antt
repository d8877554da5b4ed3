use Rattle.std.proofs.Common.{◌≡◌, ◌-◌, ◌≤◌, length, take, drop}
use Rattle.feed_disk.specs.Raised.{RisesAtMost}
use Rattle.doc_source.specs.Intake.{TakesMore}
use Rattle.doc_source.specs.Line.{HasNoLf}
use Rattle.doc_source.proofs.part.find_line.Given as goal

abbrev pub invariant-loop-end : goal.invariant-loop-end
invariant-loop-end g l = record {
  after : l.head ≤ l.searched;
  within : l.searched ≤ length l.intake.ahead;
  no_lf : HasNoLf (drop l.head (take l.searched l.intake.ahead));
  takes : TakesMore g.S.Source.observable l.fn.intake l.intake (g.S.Source.state l.fn.source) (g.S.Source.state l.source);
  read : RisesAtMost (l.intake.taken - l.fn.intake.taken) (g.S.Source.state l.fn.source).bytes_read
      (g.S.Source.state l.source).bytes_read;
  faults : (g.S.Source.state l.source).faults ≡ (g.S.Source.state l.fn.source).faults;
}

abbrev pub decreases-loop-end : goal.decreases-loop-end
decreases-loop-end g l = l.intake.limit - l.intake.taken
