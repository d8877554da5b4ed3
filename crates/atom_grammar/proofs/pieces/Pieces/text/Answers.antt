use Rattle.std.proofs.lemmas.Result.{err_from_is_err_and}
use Rattle.atom_grammar.specs.Items.{element}
use Rattle.atom_grammar.proofs.PieceLemmas.{found_here, stops_here}
use Rattle.atom_grammar.proofs.pieces.Pieces.text.Goals as goal

pub element-requires : goal.element-requires
element-requires c = c.requires

pub returns-in_err-text : goal.returns-in_err-text
returns-in_err-text c =
    let p = err_from_is_err_and c.from_residual.result c.from_residual.ensures.1 in
    rw (p.1, p.2)
    (stops_here (element c.args.start.now c.args.end.now) c.new-reader.result.rest.now c.args.self.now.rest.now _
    c.new-reader.ensures c.in_err-text.ensures)

pub returns : goal.returns
returns c =
    found_here (element c.args.start.now c.args.end.now) c.new-reader.result.rest.now c.args.self.now.rest.now _ _
    c.new-reader.ensures c.in_ok-text.ensures
