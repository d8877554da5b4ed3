use Rattle.std.proofs.Common.{length}
use Rattle.atom_grammar.proofs.BodyLemmas.{IsReading}
use Rattle.atom_grammar.proofs.body.Body.read_to_end.Given as goal

abbrev pub invariant-loop-self : goal.invariant-loop-self
invariant-loop-self l = IsReading l.initial.self l.initial.pieces.rest.now l.self l.pieces.rest.now

abbrev pub decreases-loop-self : goal.decreases-loop-self
decreases-loop-self l = length l.pieces.rest.now
