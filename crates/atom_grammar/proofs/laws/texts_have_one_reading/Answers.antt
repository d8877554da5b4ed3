use Rattle.atom_grammar.proofs.RefusalLemmas.{one_reading}
use Rattle.atom_grammar.proofs.laws.texts_have_one_reading.Goals as goal

pub returns : goal.returns
returns c = one_reading
