use Rattle.atom_writer.specs.Pieces.{joined, name_pieces}
use Rattle.atom_writer.proofs.name.push_name.Goals as goal

pub returns-clause-added : goal.returns-clause-added
unfolding joined name_pieces
returns-clause-added g c =
    let join = g.met.W.Out.joins in
    let start = g.met.W.Out.starts in
    (join _ _ _ _ _ c.in_ok-push_declaration.ensures.added
    (join _ _ _ _ _ c.in_ok-push_open_tag.ensures.added
    (join _ _ _ _ _ c.in_ok-push_id_piece.ensures.added
    (join _ _ _ _ _ c.in_ok-push_between.ensures.added
    (join _ _ _ _ _ c.in_ok-push_updated_piece.ensures.added
    (join _ _ _ _ _ c.in_ok-push_between-2.ensures.added (start _)))))))
