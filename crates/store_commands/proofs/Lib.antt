-- serves `store::apply`, `store::show_feed`, `store::show_archive` and `store::show_member`: their answers
pub mod AnswerOnLemmas
-- serves `show`, `input_faults`: the counts of faults, by how a function ended
pub mod CountLemmas
-- serves `init`, `makes`: a command that makes no store, or that failed
pub mod DiskLemmas
-- serves `apply` and `store::apply`, `refused`: the faults that end the lines
pub mod FaultLemmas
-- serves `apply`, `answer`: the history that the lines make
pub mod HistoryLemmas
-- serves `init`, `answer` and `makes`
pub mod InitLemmas
-- serves `apply` and `store::apply`, `answer`: the lines of an input, and the prefix of a line that decides what it asks
pub mod LineLemmas
-- serves `apply` and `store::apply`, `answer` and `unrefused`: `Lines::next`
pub mod LinesLemmas
-- serves `store::apply`, `applied`: a crash within the lines
pub mod MomentsLemmas
-- serves `apply` and `store::apply`, `answer`: the loops over the lines of an input
pub mod ProgressLemmas
-- serves `apply` and `store::apply`, `read`: how many bytes of an input of lines were read
pub mod ReadLemmas
-- serves `store::apply`, `answer` and `applied`: a store after a line
pub mod RoomLemmas
-- serves `show`, `shown`: the input, a buffer at a time
pub mod ShowLemmas
-- serves `apply` and `store::apply`, `answer`: a history and a store after a line
pub mod StepLemmas
-- serves `store::apply` and the others of `store`, `answer`: a loaded store and the content of its disk
pub mod StoreLemmas
