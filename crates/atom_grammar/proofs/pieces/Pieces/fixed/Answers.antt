use Rattle.std.proofs.lemmas.Result.{err_from_is_err_and}
use Rattle.atom_grammar.specs.Parts.{literal}
use Rattle.atom_grammar.proofs.PieceLemmas.{found_here, stops_here}
use Rattle.atom_grammar.proofs.pieces.Pieces.fixed.Goals as goal

pub returns-in_err-literal : goal.returns-in_err-literal
returns-in_err-literal c =
    let p = err_from_is_err_and c.from_residual.result c.from_residual.ensures.1 in
    rw (p.1, p.2)
    (stops_here (literal c.args.piece.now) c.new-reader.result.rest.now c.args.self.now.rest.now _
    c.new-reader.ensures c.in_err-literal.ensures)

pub returns : goal.returns
returns c =
    found_here (literal c.args.piece.now) c.new-reader.result.rest.now c.args.self.now.rest.now _ _
    c.new-reader.ensures c.in_ok-literal.ensures
