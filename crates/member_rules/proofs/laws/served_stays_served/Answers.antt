use Rattle.member_rules.proofs.ServedLemmas.{served-stays}
use Rattle.member_rules.proofs.laws.served_stays_served.Goals as goal

pub returns : goal.returns
returns c = served-stays
