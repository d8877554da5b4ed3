use Rattle.coverage_auditor.proofs.LinksLemmas.{AreFollowed}
use Rattle.coverage_auditor.proofs.links.check_links.Given as goal

abbrev pub invariant-loop-at : goal.invariant-loop-at
invariant-loop-at l = AreFollowed l.chain l.at
