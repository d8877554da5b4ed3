-- `StoreFetch`: `get`, and `stores_answer_what_is_served`: which document a store has at an address
pub mod AnswerLemmas
-- `StoreFetch`, `get`: `gets`
pub mod GetsLemmas
-- `StoreFetch`, `get`: `limit` and `gets`
pub mod ShortLemmas
-- `Life::new`: `lives`
pub mod NewLemmas
-- `open` and `ask`
pub mod AskLemmas
-- `Life::answer`: what was served stays served
pub mod StayLemmas
-- `Life::answer`: `asked`
pub mod AskedLemmas
-- `Turn::make`: what a request and a setting come to
pub mod TurnLemmas
-- `ask_into` and `crash_after`: what a crash leaves
pub mod CrashLemmas
-- `ask_into`: `stopped`
pub mod StoppedLemmas
-- `Life::answer_into`: `halted`, and `Life::change`: `is_set`
pub mod HaltedLemmas
-- `Life::outcome` and `Life::certificate`, and `Life::step`: the mirror of a number
pub mod ZipLemmas
-- `Life::step`: `stepped`
pub mod StepLemmas
-- `life`: `lived`
pub mod LivedLemmas
-- `life`: `headline`
pub mod HeadlineLemmas
-- `open_mirror`: `opened`, and its callers
pub mod OpenedLemmas
-- `give` and `give_into`: what is held after an answer
pub mod GivenLemmas
-- `give` and `give_into`
pub mod GiftLemmas
-- `show` and `certify`
pub mod ShownLemmas
-- `walk` and `walk_into`: how a walk over the store's documents ends, and what it leaves held
pub mod WalkEndLemmas
-- `walk` and `walk_into`: what a walk leaves of the mirror's disk and of the store's
pub mod WalkedLemmas
