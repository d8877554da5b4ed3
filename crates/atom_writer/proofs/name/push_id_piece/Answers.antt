use Rattle.atom_writer.specs.Pieces.{id_piece}
use Rattle.atom_writer.proofs.name.push_id_piece.Goals as goal

pub returns-clause-added : goal.returns-clause-added
unfolding id_piece
returns-clause-added g c =
    let join = g.met.W.Out.joins in
    join _ _ _ _ _ (join _ _ _ _ _
    c.in_ok-push.ensures.added (rw c.print-text.ensures.text at c.in_ok-push-2.ensures.added))
    c.in_ok-push-3.ensures.added
