-- `Store::archive`: the seal that is read
pub mod ArchiveLemmas
-- `Store::load`, `Store::init` and `Store::commit`: both areas at each moment
pub mod BothLemmas
-- `Store::commit`: `calls`
pub mod CountLemmas
-- `Store::load`: the seals, compared with their archives
pub mod ComparedLemmas
-- `Store::member`: the entry that an operation's bytes set
pub mod EntryLemmas
-- `Store::load`: the clause `only`
pub mod FaultLemmas
-- `Store::load`: the journal and the history
pub mod HistoryLemmas
-- `Store::init`: the store that it makes, and the disk before that
pub mod InitLemmas
-- `Store::load`: `moments` and `settled`
pub mod LoadedLemmas
-- `Places::commit`: the places after one more operation
pub mod PlacesLemmas
-- `Store::load`: its steps, which write nothing
pub mod ReadingLemmas
-- `Store::load`: `refusal`, its refusals over any disk
pub mod RefusedLemmas
-- `Store::prepare`: its refusals
pub mod RefusalLemmas
-- `Store::due_seal`: the number and the length of the next seal
pub mod SealLemmas
-- `Store::append_seal` and `Store::append_operation`: the seals
pub mod SealListLemmas
-- `Store::commit`: `committed` and `leaves`, and `settled` of it, of `Store::load` and of `Store::init`
pub mod SettleLemmas
-- `Store::append_seal` and `Store::append_operation`: `stands`
pub mod StoreLemmas
-- the crates above: the sizes of a store's logs
pub mod SizeLemmas
-- the crates above: what a crash leaves of a store that gains operations
pub mod PastLemmas
