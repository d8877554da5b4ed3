-- serves the clauses of the commands: the exit statuses of faults
pub mod EndLemmas
-- serves `EndsAs`: an answer that was printed
pub mod AnsweredLemmas
-- serves the clauses of the commands: the part of a text that the output took
pub mod PrintLemmas
-- serves `summary`: bytes that are added one after another
pub mod SummaryLemmas
