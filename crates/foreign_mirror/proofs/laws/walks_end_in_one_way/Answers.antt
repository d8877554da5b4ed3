use Rattle.foreign_mirror.proofs.OnceLemmas.{walks_ask_once}
use Rattle.foreign_mirror.proofs.OneWayLemmas.{walks_end_one_way}
use Rattle.foreign_mirror.proofs.laws.walks_end_in_one_way.Goals as goal

pub returns-clause-ends : goal.returns-clause-ends
returns-clause-ends c = walks_end_one_way

pub returns-clause-once : goal.returns-clause-once
returns-clause-once c = walks_ask_once
