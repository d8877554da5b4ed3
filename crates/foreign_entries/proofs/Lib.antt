-- serves `Member::offer`, `Member::remove` and the clauses of `add`: the newest entry and the latest tombstone
pub mod NewestLemmas
-- serves `add`: the map with one more member, or with a member changed
pub mod MembersLemmas
-- serves `add`: the entries and the tombstones of a document in turn
pub mod AddedLemmas
-- serves `into_live`: the live entries of the members, in the order of their keys
pub mod LiveLemmas
-- serves `documents_have_one_live_list`: lists that rise and have the same entries
pub mod LawLemmas
