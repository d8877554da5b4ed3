use Rattle.memchr.specs.Find.{is_byte3}
use Rattle.xml_tokens.proofs.RunLemmas.{first_place}
use Rattle.xml_tokens.proofs.cursor.end_of_plain.Goals as goal

pub returns : goal.returns
returns c = first_place (is_byte3 60 38 93) c.args.text.now c.memchr3.result c.memchr3.ensures
