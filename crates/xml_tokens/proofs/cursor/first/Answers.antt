use Rattle.memchr.specs.Find.{is_byte}
use Rattle.xml_tokens.proofs.RunLemmas.{first_place}
use Rattle.xml_tokens.proofs.cursor.first.Goals as goal

pub returns : goal.returns
returns c = first_place (is_byte c.args.byte) c.args.text.now c.memchr.result c.memchr.ensures
