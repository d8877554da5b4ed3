use Rattle.member_rules.proofs.ShowsLemmas.{live_of-is_shown}
use Rattle.member_rules.proofs.laws.live_of_is_shown.Goals as goal

pub returns : goal.returns
returns c = live_of-is_shown
