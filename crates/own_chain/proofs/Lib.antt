-- serves `own_chains_are_read`: elements of lists that are made of other lists
mod ElementLemmas
-- serves `own_chains_are_read`: the addresses of a chain's documents
mod AddressLemmas
-- serves `own_chains_are_read`: the walk over a chain
mod WalkLemmas
-- serves `own_chains_are_read`: the entries and tombstones of a chain's documents, as a reader of any feed takes them
mod OccurrenceLemmas
-- serves `own_chains_are_read`: which entries of a chain count
mod CountsLemmas
-- serves `own_chains_are_read`: the live entries
mod LiveLemmas
-- serves `own_chains_are_read`: the law from its parts
mod LawLemmas
