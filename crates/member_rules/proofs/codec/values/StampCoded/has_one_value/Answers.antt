use Rattle.member_rules.proofs.FieldLemmas.{stamp_one}
use Rattle.member_rules.proofs.codec.values.StampCoded.has_one_value.Goals as goal

pub returns : goal.returns
returns c = stamp_one
