-- `Ahead::read`: `bytes`
pub mod AheadLemmas
-- `Frames::append`: `moments`, for the two writes, and the content after them
pub mod AppendLemmas
-- `Frames::close` and `Frames::cut`: `kept`, `moments`, `all` and `rests`; the clauses `whole`
pub mod CutLemmas
-- `Frames::append`: `moments` for the four device calls, and the clauses on the number of device calls
pub mod CallLemmas
-- the rule of `Log`, and the clauses `listed`
pub mod ExtentLemmas
-- `Frames::append`: `list`, `listed`, `size` and `rests`
pub mod ListLemmas
-- `Log::load`: `size` and `rests`; `FrameReader::open`: `closed`
pub mod LoadLemmas
-- `Frames::read_part`: that the range is in the area, and `part`; `Frames::read`: `payload` and `length`
pub mod ReadLemmas
-- `FrameReader::next`: `listed` and `begins`
pub mod ReadingLemmas
-- the payloads of an area, for all of these
pub mod RecordLemmas
-- `Log::load`: `listed`; `FrameReader::next`: `payload` and `reading`
pub mod ScanLemmas
-- `settle_area`: `moments`, `same` and `content`
pub mod SettleLemmas
