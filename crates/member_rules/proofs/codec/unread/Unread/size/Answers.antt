use Rattle.std.proofs.Common.{refl}
use Rattle.member_rules.proofs.FieldLemmas.{size_short, size_found}
use Rattle.member_rules.proofs.codec.unread.Unread.size.Goals as goal

pub returns-in_default : goal.returns-in_default
returns-in_default c = (refl, size_short c.args.self.now.rest.now c.in_default.ensures.cases)

pub returns : goal.returns
returns c =
    size_found c.args.self.now.rest.now _ _ c.size_of.result c.size_of.type_inv c.size_of.ensures
    c.in-Some.ensures.cases.0
    c.in-Some.ensures.cases.1
