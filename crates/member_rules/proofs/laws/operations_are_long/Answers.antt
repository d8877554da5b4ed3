use Rattle.member_rules.proofs.PayloadLemmas.{operation-long}
use Rattle.member_rules.proofs.laws.operations_are_long.Goals as goal

pub returns : goal.returns
returns c = operation-long
