use Rattle.std.proofs.Common.{◌-◌}
use Rattle.mirror_commands.specs.Mirror.{pile_limit}
use Rattle.mirror_commands.proofs.CountedLemmas.{IsCounted}
use Rattle.mirror_commands.proofs.GivingLemmas.{IsGiving}
use Rattle.mirror_commands.proofs.from_pile.offer_all.Given as goal

abbrev pub invariant-loop-offer : goal.invariant-loop-offer
invariant-loop-offer g l = record {
  giving : IsGiving g.I.Source.observable g.D.Disk.observable l.fn.report.detailed l.fn.mirror
      (g.D.Disk.state l.fn.disk)
      (g.D.Disk.state l.disk) (g.I.Source.state l.fn.input) (g.I.Source.state l.input) l.reader l.mirror l.report;
  counted : IsCounted pile_limit (g.I.Source.state l.fn.input) (g.I.Source.state l.input) l.reader;
}

abbrev pub decreases-loop-offer : goal.decreases-loop-offer
decreases-loop-offer g l = pile_limit - l.reader.used
