use Rattle.member_rules.proofs.ServedLemmas.{archive-stays}
use Rattle.member_rules.proofs.laws.archives_stay.Goals as goal

pub returns : goal.returns
returns c = archive-stays
