use Rattle.std.proofs.lemmas.Result.{err_from_is_err_and}
use Rattle.atom_grammar.specs.FeedParts.{feed_id}
use Rattle.atom_grammar.proofs.PieceLemmas.{found_here, stops_here}
use Rattle.atom_grammar.proofs.pieces.Pieces.feed_id.Goals as goal

pub returns-in_err-id : goal.returns-in_err-id
returns-in_err-id c =
    let p = err_from_is_err_and c.from_residual.result c.from_residual.ensures.1 in
    rw (p.1, p.2)
    (stops_here (feed_id) c.new-reader.result.rest.now c.args.self.now.rest.now _ c.new-reader.ensures
    c.in_err-id.ensures)

pub returns : goal.returns
returns c =
    found_here (feed_id) c.new-reader.result.rest.now c.args.self.now.rest.now _ _ c.new-reader.ensures
    c.in_ok-id.ensures
