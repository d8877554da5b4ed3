use Rattle.std.proofs.lemmas.Result.{err_from_is_err_and}
use Rattle.atom_grammar.specs.FeedParts.{own}
use Rattle.atom_grammar.proofs.PieceLemmas.{found_here, stops_here}
use Rattle.atom_grammar.proofs.pieces.Pieces.own.Goals as goal

pub returns-in_err-own : goal.returns-in_err-own
returns-in_err-own c =
    let p = err_from_is_err_and c.from_residual.result c.from_residual.ensures.1 in
    rw (p.1, p.2)
    (stops_here (own) c.new-reader.result.rest.now c.args.self.now.rest.now _ c.new-reader.ensures
    c.in_err-own.ensures)

pub returns : goal.returns
returns c =
    found_here (own) c.new-reader.result.rest.now c.args.self.now.rest.now _ _ c.new-reader.ensures
    c.in_ok-own.ensures
