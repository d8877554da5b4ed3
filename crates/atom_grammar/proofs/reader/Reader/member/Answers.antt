use Rattle.atom_grammar.proofs.NameLemmas.{member_short, member_read}
use Rattle.atom_grammar.proofs.reader.Reader.member.Goals as goal

pub returns-in_default : goal.returns-in_default
returns-in_default c = member_short c.args.feed.now c.args.self.now.rest.now c.in_default.ensures.cases

pub returns : goal.returns
returns c =
    member_read c.args.feed.now c.args.self.now.rest.now c.in-Some.id.now c.in-Some.rest.now c.number_of.result
    c.ok_or.result c.ok_or.ensures.value
    c.in-Some.ensures.cases.1 c.in-Some.ensures.cases.2 c.number_of.ensures
