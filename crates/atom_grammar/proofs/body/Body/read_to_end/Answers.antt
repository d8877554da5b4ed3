use Rattle.std.proofs.Common.{ap, refl, Err}
use Rattle.atom_grammar.proofs.BodyLemmas.{same_fault, some_left}
use Rattle.atom_grammar.proofs.EndLemmas.{refused_from}
use Rattle.atom_grammar.proofs.ItemListLemmas.{ended_stuck}
use Rattle.atom_grammar.proofs.body.Body.read_to_end.Goals as goal

pub returns-in_err-read_next-clause-refused : goal.returns-in_err-read_next-clause-refused
returns-in_err-read_next-clause-refused c = λ is.
    let stop = ap (λ z. Err z) (same_fault _ c.from_residual.result c.from_residual.ensures.1 is) in
    refused_from c.args.self.now c.loop-self.self c.args.pieces.now.rest.now c.loop-self.pieces.rest.now
    c.read_next.new.pieces.rest.now c.loop-self.invariant (c.in_err-read_next.ensures.stuck stop)
    (c.in_err-read_next.ensures.unread stop).1

pub returns-else-is_empty-clause-refused : goal.returns-else-is_empty-clause-refused
returns-else-is_empty-clause-refused c = λ _.
    let rest = c.loop-self.pieces.rest.now in
    refused_from c.args.self.now c.loop-self.self c.args.pieces.now.rest.now rest rest c.loop-self.invariant
    (ended_stuck c.loop-self.self rest c.loop-self-test.false (some_left rest c.if-is_empty.ensures)) refl
