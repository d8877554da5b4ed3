-- for all clauses: two items of one member in a history
pub mod MemberLemmas
-- for all clauses: moments rise along a history
pub mod MomentLemmas
-- for all clauses: documents of which each is later than those after it
pub mod DatedLemmas
-- serves `published_rule_shows_the_chain`, `cuts`: the documents of a cut
pub mod CutRuleLemmas
-- serves both functions: the laws from their parts
pub mod RuleLemmas
