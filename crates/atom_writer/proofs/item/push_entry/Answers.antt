use Rattle.atom_writer.specs.Pieces.{entry_piece}
use Rattle.atom_writer.proofs.item.push_entry.Goals as goal

pub returns-clause-added : goal.returns-clause-added
unfolding entry_piece
returns-clause-added g c =
    let join = g.met.W.Out.joins in
    join _ _ _ _ _ (join _ _ _ _ _
    c.in_ok-push.ensures.added c.in_ok-push_inner.ensures.added) c.in_ok-push-2.ensures.added
