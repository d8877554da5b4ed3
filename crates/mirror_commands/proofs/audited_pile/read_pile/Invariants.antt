use Rattle.std.proofs.Common.{◌≡◌, ◌-◌, length}
use Rattle.mirror_commands.specs.Audit.{audited_limit}
use Rattle.mirror_commands.proofs.AuditedPileLemmas.{IsReading}
use Rattle.mirror_commands.proofs.CountedLemmas.{IsCounted}
use Rattle.mirror_commands.proofs.audited_pile.read_pile.Given as goal

abbrev pub invariant-loop-offers : goal.invariant-loop-offers
invariant-loop-offers g l = record {
  reading : IsReading g.I.Source.observable l.fn.limit (g.I.Source.state l.fn.input) (g.I.Source.state l.input) l.reader
      l.offers.items;
  counted : IsCounted l.fn.limit (g.I.Source.state l.fn.input) (g.I.Source.state l.input) l.reader;
  faults : (g.I.Source.state l.input).faults ≡ (g.I.Source.state l.fn.input).faults;
}

abbrev pub decreases-loop-offers : goal.decreases-loop-offers
decreases-loop-offers g l = audited_limit - length l.offers.items
