-- serves `foreign_has_one_answer` and `foreign`, the clause `complete`: what the source has determines the answer
pub mod OneForeignLemmas
-- serves `foreign`, the clause `walks`: the addresses asked, and the answer to the chain of an own feed
pub mod OwnAnswerLemmas
