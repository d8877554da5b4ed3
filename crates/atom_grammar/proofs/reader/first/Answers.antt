use Rattle.memchr.specs.Find.{is_byte}
use Rattle.atom_grammar.proofs.TextLemmas.{first_place}
use Rattle.atom_grammar.proofs.reader.first.Goals as goal

pub returns : goal.returns
returns c = first_place (is_byte c.args.byte) c.args.text.now c.memchr.result c.memchr.ensures
