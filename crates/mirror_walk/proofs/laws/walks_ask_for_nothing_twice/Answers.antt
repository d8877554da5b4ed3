use Rattle.mirror_walk.proofs.WalkLemmas.{walks-ask_once}
use Rattle.mirror_walk.proofs.laws.walks_ask_for_nothing_twice.Goals as goal

pub returns : goal.returns
returns c = walks-ask_once
