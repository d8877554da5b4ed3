use Rattle.std.proofs.Common.{refl}
use Rattle.member_rules.proofs.RuledLemmas.{id_short, id_refused, id_found}
use Rattle.member_rules.proofs.codec.head.read_id.Goals as goal

pub returns-in_default : goal.returns-in_default
returns-in_default c = (refl, id_short c.args.unread.now.rest.now c.in_default.ensures.cases)

pub returns-in_default-of : goal.returns-in_default-of
returns-in_default-of c =
    let cases = c.in-Some.ensures.cases in
    (refl, id_refused c.args.unread.now.rest.now _ _ cases.0 cases.1 cases.2 (c.in_default-of.ensures.refused refl))

pub returns : goal.returns
returns c =
    let cases = c.in-Some.ensures.cases in
    id_found c.args.unread.now.rest.now _ _ _ cases.0 cases.1 c.in-Some-of.ensures.found.0 c.in-Some-of.ensures.found.1
