use Rattle.published_rule.proofs.RuleLemmas.{live_of-counts}
use Rattle.published_rule.proofs.laws.live_of_counts.Goals as goal

pub returns : goal.returns
returns c = live_of-counts
