use Rattle.atom_grammar.proofs.OwnAddressLemmas.{uuid_short, uuid_refused, uuid_found}
use Rattle.atom_grammar.proofs.reader.Reader.uuid.Goals as goal

pub returns-in_default : goal.returns-in_default
returns-in_default c = uuid_short c.args.self.now.rest.now c.in_default.ensures.cases

pub returns-in_default-read_id : goal.returns-in_default-read_id
returns-in_default-read_id c =
    uuid_refused c.args.self.now.rest.now c.in-Some.text.now c.in-Some.ensures.cases.1
    c.in_default-read_id.ensures.only

pub returns : goal.returns
returns c =
    uuid_found c.args.self.now.rest.now c.in-Some.text.now c.in-Some.rest.now c.in-Some-read_id.id
    c.in-Some.ensures.cases.1 c.in-Some.ensures.cases.2
    c.in-Some-read_id.ensures.found.0 c.in-Some-read_id.ensures.found.1
