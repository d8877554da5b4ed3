use Rattle.std.proofs.Common.{refl}
use Rattle.member_rules.proofs.FieldLemmas.{number_short, number_found}
use Rattle.member_rules.proofs.codec.unread.Unread.number.Goals as goal

pub returns-in_default : goal.returns-in_default
returns-in_default c = (refl, number_short c.args.self.now.rest.now c.in_default.ensures.cases)

pub returns : goal.returns
returns c =
    number_found c.args.self.now.rest.now _ _ c.number_of.result c.number_of.type_inv c.number_of.ensures
    c.in-Some.ensures.cases.0
    c.in-Some.ensures.cases.1
