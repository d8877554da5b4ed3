use Rattle.std.proofs.Common.{take}
use Rattle.coverage_auditor.specs.Offers.{IsIndexOf}
use Rattle.coverage_auditor.proofs.offers.Offers.of.Given as goal

abbrev pub invariant-loop-at : goal.invariant-loop-at
invariant-loop-at l = IsIndexOf l.base (take l.at l.pile) l.offers.firsts l.offers.places
