use Rattle.std.proofs.Common.{◌≡◌, ◌+◌, ◌-◌, ◌≤◌, length, Some}
use Rattle.feed_disk.specs.Raised.{RisesAtMost}
use Rattle.doc_source.specs.Intake.{TakesMore}
use Rattle.doc_source.specs.Part.{IsPart, with_part}
use Rattle.doc_source.proofs.part.Part.read_on.Given as goal

abbrev pub invariant-loop-self : goal.invariant-loop-self
invariant-loop-self g l = record {
  part : IsPart l.self;
  bound : l.intake.taken ≤ l.intake.limit;
  takes : TakesMore g.S.Source.observable (with_part l.used (Some l.fn.self) l.fn.intake)
      (with_part l.used (Some l.self) l.intake)
      (g.S.Source.state l.fn.source) (g.S.Source.state l.source);
  read : RisesAtMost (l.intake.taken - l.fn.intake.taken) (g.S.Source.state l.fn.source).bytes_read
      (g.S.Source.state l.source).bytes_read;
  faults : (g.S.Source.state l.source).faults ≡ (g.S.Source.state l.fn.source).faults;
}

abbrev pub decreases-loop-self : goal.decreases-loop-self
decreases-loop-self g l = l.self.count + 1 - length l.self.behind.items
