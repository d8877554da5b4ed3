-- where a list is cut at a byte, for all that is read of a pile
pub mod CutLemmas
-- `piles_have_one_reading`: `one`, and `next`: `only`
pub mod OneReading
-- `piles_have_one_reading`: `in_order` and `whole`
pub mod RunLemmas
-- `next`: `answer`, from the bytes that were read
pub mod PileLemmas
-- `next`: `answer`, at each place where a reader returns
pub mod SeenLemmas
-- `next`: `answer`, for the first line of an offer
pub mod LineLemmas
-- `next`: `only`
pub mod AnswerLemmas
-- `next`: `stays`, `used` and `bound`
pub mod ReaderLemmas
-- `next`: `stays`, for the bytes ahead in the buffer
pub mod IntakeLemmas
-- `write_offer`: `prefix` and `whole`
pub mod WriteLemmas
