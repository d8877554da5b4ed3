-- serves `listing`: the lines of the members, and the walk over all members
pub mod WalkLemmas
-- serves `listings_are_newest_first`
pub mod NewestLemmas
-- serves `pages_are_no_documents`, `targets_are_addresses` and `service_answer`
pub mod PageLemmas
