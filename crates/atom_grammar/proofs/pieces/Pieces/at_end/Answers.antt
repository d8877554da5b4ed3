use Rattle.std.proofs.Common.{ap, ◌∙◌, codes}
use Rattle.atom_grammar.specs.Parts.{starts}
use Rattle.atom_grammar.proofs.pieces.Pieces.at_end.Goals as goal

pub returns : goal.returns
returns c = c.at.ensures ∙ ap (starts (codes "</feed>\n")) c.new.ensures
