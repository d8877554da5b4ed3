-- serves `run`, `ends`: the faults after a store was loaded
pub mod LoadedFaultLemmas
-- serves `commands_have_one_answer`
pub mod AnswerLemmas
-- serves `run`, `answered`: the answer of each command, from the contract of its function
pub mod CommandLemmas
-- serves `run`, `faults`: the counts of faults, by how a function ended
pub mod CountLemmas
-- serves `run`, `ends` and `complete`: how `show pile` ends
pub mod PileEndLemmas
-- serves `run`, `answered` and `ends`: the documents that the output took
pub mod PileLemmas
-- serves `run`: the words that were read, and how the command ended
pub mod RunLemmas
-- serves `run`, `ends`: a session
pub mod ServeLemmas
-- serves `run`, `answered` and `ends`: how `drill` ends
pub mod DrillEndLemmas
-- serves `run`, `ends`: a run whose command wasn't read, or prints a text alone
pub mod EndsLemmas
-- serves `run`, `ends`: a `relay` whose command wasn't read
pub mod RelayEndLemmas
