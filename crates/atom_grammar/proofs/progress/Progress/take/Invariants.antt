use Rattle.std.proofs.Common.{length}
use Rattle.atom_grammar.proofs.ProgressLemmas.{IsTaking}
use Rattle.atom_grammar.proofs.progress.Progress.take.Given as goal

abbrev pub invariant-loop-at : goal.invariant-loop-at
invariant-loop-at l = IsTaking l.fn.self l.fn.bytes l.self l.rest

abbrev pub decreases-loop-at : goal.decreases-loop-at
decreases-loop-at l = length l.rest
