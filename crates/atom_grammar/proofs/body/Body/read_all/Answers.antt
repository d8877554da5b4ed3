use Rattle.std.proofs.Common.{ap, Err}
use Rattle.atom_grammar.proofs.BodyLemmas.{read_on, same_fault, some_left}
use Rattle.atom_grammar.proofs.WholeLemmas.{whole_taken, read_stuck}
use Rattle.atom_grammar.proofs.body.Body.read_all.Goals as goal

pub loop-alloc-preserved : goal.loop-alloc-preserved
loop-alloc-preserved c =
    let rest = c.loop-alloc.pieces.rest.now in
    let left = c.read_next.new.pieces.rest.now in
    let taken = c.in_ok-read_next.ensures.read in (
      read_on c.args.self.now c.loop-alloc.self c.args.pieces.now.rest.now rest c.read_next.new.self left
          c.loop-alloc.invariant.0 taken,
      whole_taken c.loop-alloc.self c.read_next.new.self rest left c.loop-alloc.invariant.0.keeps
          c.loop-alloc.invariant.1 taken,
    )

pub returns-in_err-read_next-clause-refused : goal.returns-in_err-read_next-clause-refused
returns-in_err-read_next-clause-refused c = λ is.
    let stop = ap (λ z. Err z) (same_fault _ c.from_residual.result c.from_residual.ensures.1 is) in
    read_stuck c.args.self.now c.loop-alloc.self c.args.pieces.now.rest.now c.loop-alloc.pieces.rest.now
    c.read_next.new.pieces.rest.now c.loop-alloc.invariant.0 c.loop-alloc.invariant.1
    (c.in_err-read_next.ensures.stuck stop)
    (some_left c.loop-alloc.pieces.rest.now c.loop-alloc-test.ensures)
    (c.in_err-read_next.ensures.unread stop).1
