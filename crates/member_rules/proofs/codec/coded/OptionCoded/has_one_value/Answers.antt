use Rattle.member_rules.proofs.FieldLemmas.{optional_one}
use Rattle.member_rules.proofs.codec.coded.OptionCoded.has_one_value.Goals as goal

pub returns : goal.returns
returns g c = optional_one g.T.Coded.field c.has_one_value.ensures
