-- serves `discover_has_one_answer` and `discover`: what the source has determines the answer
pub mod OneAnswerLemmas
-- serves `discover`, the clauses of its ends
pub mod EndLemmas
