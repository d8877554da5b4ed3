use Rattle.member_rules.proofs.FieldLemmas.{kind_one}
use Rattle.member_rules.proofs.codec.values.TextKindCoded.has_one_value.Goals as goal

pub returns : goal.returns
returns c = kind_one
