use Rattle.atom_writer.specs.Pieces.{link_piece}
use Rattle.atom_writer.proofs.place.push_link.Goals as goal

pub returns-clause-added : goal.returns-clause-added
unfolding link_piece
returns-clause-added g c =
    let join = g.met.W.Out.joins in
    join _ _ _ _ _ (join _ _ _ _ _ (join _ _ _ _ _ (join _ _ _ _ _
    c.in_ok-push.ensures.added c.in_ok-push-2.ensures.added) c.in_ok-push-3.ensures.added)
    c.in_ok-push_address.ensures.added) c.in_ok-push-4.ensures.added
