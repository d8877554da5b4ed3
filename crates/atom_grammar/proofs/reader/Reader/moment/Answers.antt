use Rattle.atom_grammar.proofs.TextLemmas.{moment_short, moment_refused, moment_found}
use Rattle.atom_grammar.proofs.reader.Reader.moment.Goals as goal

pub returns-in_default : goal.returns-in_default
returns-in_default c =
    moment_short c.args.self.now.rest.now c.moment_len.result c.moment_len.ensures c.in_default.ensures.cases

pub returns-in_default-printed_moment : goal.returns-in_default-printed_moment
returns-in_default-printed_moment c =
    moment_refused c.args.self.now.rest.now c.in-Some.written.now c.moment_len.result c.moment_len.ensures
    c.in-Some.ensures.cases.1
    (λ z law e. let h = c.in_default-printed_moment.ensures.only z law e in cc)

pub returns : goal.returns
returns c =
    moment_found c.args.self.now.rest.now c.in-Some.written.now c.in-Some.rest.now c.moment_len.result
    c.in-Some-printed_moment.moment c.in-Some.ensures.cases.1 c.in-Some.ensures.cases.2
    c.in-Some-printed_moment.ensures.found.0 c.in-Some-printed_moment.ensures.found.1
