use Rattle.member_rules.proofs.FieldLemmas.{construct_one}
use Rattle.member_rules.proofs.codec.values.TextCoded.has_one_value.Goals as goal

pub returns : goal.returns
returns c = construct_one
