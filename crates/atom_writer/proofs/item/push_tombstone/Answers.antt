use Rattle.atom_writer.specs.Pieces.{tombstone_piece}
use Rattle.atom_writer.proofs.item.push_tombstone.Goals as goal

pub returns-clause-added : goal.returns-clause-added
unfolding tombstone_piece
returns-clause-added g c =
    let join = g.met.W.Out.joins in
    rw (← c.tombstone.view_is)
    (join _ _ _ _ _ (join _ _ _ _ _ (join _ _ _ _ _ (join _ _ _ _ _
    c.in_ok-push.ensures.added c.in_ok-push_id.ensures.added) c.in_ok-push-2.ensures.added)
    c.in_ok-push_stamp.ensures.added) c.in_ok-push-3.ensures.added)
