-- the areas after their gates were closed
pub mod CloseLemmas
-- a repair ends in one way
pub mod EndLemmas
-- the journal of a history has no bad record
pub mod JournalLemmas
-- the seals that a repair keeps
pub mod KeptLemmas
-- `make_seals`: what was read of the journal, and the seals that were appended
pub mod MakingLemmas
-- a rebuild of the sealed area
pub mod RebuildLemmas
-- a repair
pub mod RepairLemmas
-- `scrub`: its verdict, and the causes of its faults
pub mod ScrubLemmas
-- the first pass of a repair
pub mod SurveyLemmas
-- the areas after their syncs
pub mod SyncLemmas
