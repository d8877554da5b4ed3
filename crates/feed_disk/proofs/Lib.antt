-- the clauses of `MemoryDisk`'s device calls (`area`, `areas`, `others`, `torn`, `certain`)
pub mod CallLemmas
-- the rule of `MemoryDisk` on its clock
pub mod ClockLemmas
-- `MemoryDisk::image`: `among` and `reached`
pub mod CrashLemmas
-- `MemoryDisk::image`: `disk`, the part on bytes and marks since the last sync
pub mod CutLemmas
-- `FileDisk`: `area` of `write`, `counts`, and the trait's clauses on content
pub mod FileLemmas
-- `MemoryDisk::image`: `disk`, for `Choice::Fill`
pub mod FillLemmas
-- `MemoryDisk::image`: `among`, for one area
pub mod ImageLemmas
-- for callers of a `Disk`: moments and images of several device calls; some lemmas only crates above cite
pub mod MomentLemmas
-- `MemoryDisk::image`: `reached`, for one area
pub mod ReachLemmas
-- `MemoryDisk::image`: `disk`, the part on lists of changes
pub mod SplitLemmas
-- `MemoryDisk::write`: `area` and `torn`
pub mod TornLemmas
