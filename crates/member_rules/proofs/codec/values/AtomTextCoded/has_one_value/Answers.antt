use Rattle.member_rules.proofs.FieldLemmas.{text_one}
use Rattle.member_rules.proofs.codec.values.AtomTextCoded.has_one_value.Goals as goal

pub returns : goal.returns
returns c = text_one
