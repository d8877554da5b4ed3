-- serves `sound_stores_have_one_answer` and `scrub`: the content determines the answer of a sound store
pub mod OneAnswerLemmas
-- serves `repairs_have_one_end` and `repair`: the content determines the end of a repair
pub mod OneRepairLemmas
-- serves `repair`, and `run` of the crate above: what a repair leaves, by how its command ends
pub mod RepairEndLemmas
