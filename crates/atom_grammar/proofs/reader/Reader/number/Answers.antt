use Rattle.atom_grammar.proofs.NameLemmas.{number_nowhere, number_read}
use Rattle.atom_grammar.proofs.reader.Reader.number.Goals as goal

pub returns-in_default : goal.returns-in_default
returns-in_default c = number_nowhere c.args.self.now.rest.now c.in_default.ensures

pub returns : goal.returns
returns c =
    number_read c.args.self.now.rest.now c.in-Some.digits.now c.up_to.new.self.rest.now c.parse_decimal.result
    c.ok_or.result c.ok_or.ensures.value
    c.in-Some.ensures c.parse_decimal.ensures.found c.parse_decimal.ensures.only
