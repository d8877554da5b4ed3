use Rattle.member_rules.proofs.PartLemmas.{person_one}
use Rattle.member_rules.proofs.codec.parts.PersonCoded.has_one_value.Goals as goal

pub returns : goal.returns
returns c = person_one
