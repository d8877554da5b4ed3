use Rattle.mirror_walk.proofs.GapLemmas.{IsPassed}
use Rattle.mirror_walk.proofs.documents.Documents.first_missing.Given as goal

abbrev pub invariant-loop-at : goal.invariant-loop-at
invariant-loop-at l = IsPassed l.self.kept l.at l.number

abbrev pub decreases-loop-at : goal.decreases-loop-at
decreases-loop-at l = l.at
