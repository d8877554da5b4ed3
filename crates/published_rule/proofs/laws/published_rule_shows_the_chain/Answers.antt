use Rattle.published_rule.proofs.RuleLemmas.{rule-of_chains, rule-of_cuts}
use Rattle.published_rule.proofs.laws.published_rule_shows_the_chain.Goals as goal

pub returns : goal.returns
returns c = record { cuts = rule-of_cuts; chains = rule-of_chains }
