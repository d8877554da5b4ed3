use Rattle.memchr.specs.Find.{is_byte2}
use Rattle.xml_tokens.proofs.RunLemmas.{first_place}
use Rattle.xml_tokens.proofs.cursor.first_of.Goals as goal

pub returns : goal.returns
returns c = first_place (is_byte2 c.args.one c.args.other) c.args.text.now c.memchr2.result c.memchr2.ensures
