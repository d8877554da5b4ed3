-- serves `Shelf::place`, `Chain::read` and `live_digest`: lists that grow at the end
pub mod ListLemmas
-- serves `Offers::add`, `Offers::of` and `Offers::place`: the index of the offers
pub mod OffersLemmas
-- serves `Shelf::place` and `Chain::read`: the documents of the lines
pub mod ChainLemmas
-- serves `Document::entry` and `entry_at`: an entry, read from its piece
pub mod DocumentLemmas
-- serves the checks of links.rt
pub mod LinksLemmas
-- serves `check` and `audit`: the checks in turn, and what is accepted
pub mod VerdictLemmas
-- serves `audit`: one verdict for each certificate and pile
pub mod UniqueLemmas
-- serves `live_places` and `check_live`: the live entries of the documents
pub mod EntriesLemmas
-- serves `next_live` and `live_digest`: the live entries in order of number
pub mod NextLiveLemmas
-- serves `audit`, `served`: documents that one feed served
pub mod ServedLemmas
-- serves `live_places` and `live_digest`: the documents from the oldest to the newest
pub mod DigestLemmas
-- serves `check`: the result of all checks
pub mod CheckLemmas
-- serves `own_certificates_are_accepted`: a mirror's certificate over its own documents
pub mod OwnLemmas
