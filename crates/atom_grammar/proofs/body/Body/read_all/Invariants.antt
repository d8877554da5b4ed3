use Rattle.std.proofs.Common.{length}
use Rattle.atom_grammar.specs.Cutting.{AreWhole}
use Rattle.atom_grammar.proofs.BodyLemmas.{IsReading}
use Rattle.atom_grammar.proofs.body.Body.read_all.Given as goal

abbrev pub invariant-loop-alloc : goal.invariant-loop-alloc
invariant-loop-alloc l =
    IsReading l.initial.self l.initial.pieces.rest.now l.self l.pieces.rest.now × AreWhole l.pieces.rest.now

abbrev pub decreases-loop-alloc : goal.decreases-loop-alloc
decreases-loop-alloc l = length l.pieces.rest.now
