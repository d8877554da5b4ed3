use Rattle.store_scrub.proofs.EndLemmas.{one-end}
use Rattle.store_scrub.proofs.laws.repairs_end_in_one_way.Goals as goal

pub returns : goal.returns
returns c = one-end
