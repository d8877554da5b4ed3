use Rattle.atom_grammar.proofs.RefusalLemmas.{prefix_free}
use Rattle.atom_grammar.proofs.laws.pieces_are_prefix_free.Goals as goal

pub returns : goal.returns
returns c = prefix_free
