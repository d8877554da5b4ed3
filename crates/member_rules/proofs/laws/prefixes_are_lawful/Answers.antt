use Rattle.member_rules.proofs.ServedLemmas.{prefix-lawful}
use Rattle.member_rules.proofs.laws.prefixes_are_lawful.Goals as goal

pub returns : goal.returns
returns c = prefix-lawful
