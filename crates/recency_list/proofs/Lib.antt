-- serves the rest: lists of slots that differ
pub mod ApartLemmas
-- serves `unlink` and `link_first`: what a write to a slot leaves of the links
pub mod LinkLemmas
-- serves the calls of `Recency`: the slots of a list, after each change
pub mod OrderLemmas
