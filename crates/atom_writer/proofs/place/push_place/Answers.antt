use Rattle.atom_writer.proofs.PieceLemmas.{joined-place}
use Rattle.atom_writer.proofs.place.push_place.Goals as goal

pub returns-clause-added : goal.returns-clause-added
returns-clause-added g c =
    let join = g.met.W.Out.joins in
    rw (← joined-place c.args.name.now c.args.kind c.args.span c.args.prev)
    (join _ _ _ _ _ (join _ _ _ _ _ (join _ _ _ _ _ (join _ _ _ _ _
    (rw c.address.ensures at c.in_ok-push_link.ensures.added) c.in_ok-push_current.ensures.added)
    c.in_ok-push_prev.ensures.added) c.in_ok-push_next.ensures.added) c.in_ok-push_span_piece.ensures.added)
