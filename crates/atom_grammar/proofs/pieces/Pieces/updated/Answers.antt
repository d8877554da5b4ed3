use Rattle.std.proofs.lemmas.Result.{err_from_is_err_and}
use Rattle.atom_grammar.specs.FeedParts.{updated}
use Rattle.atom_grammar.proofs.PieceLemmas.{found_here, stops_here}
use Rattle.atom_grammar.proofs.pieces.Pieces.updated.Goals as goal

pub returns-in_err-moment : goal.returns-in_err-moment
returns-in_err-moment c =
    let p = err_from_is_err_and c.from_residual.result c.from_residual.ensures.1 in
    rw (p.1, p.2)
    (stops_here (updated) c.new-reader.result.rest.now c.args.self.now.rest.now _ c.new-reader.ensures
    c.in_err-moment.ensures)

pub returns : goal.returns
returns c =
    found_here (updated) c.new-reader.result.rest.now c.args.self.now.rest.now _ _ c.new-reader.ensures
    c.in_ok-moment.ensures
