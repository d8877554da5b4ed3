-- `read_request`: `heard` and `refused`, for the fields of a head
pub mod FieldLemmas
-- `read_request`: `most`
pub mod ReadLemmas
-- `read_request`: `heard` and `refused`, for which bytes begin with a head
pub mod HeadLemmas
-- `write_reply`: `whole` and `cut`
pub mod PutLemmas
-- `write_reply`: `status`, for the number of the status
pub mod PhraseLemmas
-- `read_request`: `heard` and `refused`, for the body after a head
pub mod BodyLemmas
-- `read_request`: `heard`, `refused` and `needed`, from a head and a body to the bytes of the connection
pub mod RequestLemmas
-- `read_response`: `answered` and `bad`, for which bytes begin with a head
pub mod ResponseHeadLemmas
-- `read_response`: `answered` and `bad`, for the answer of a head; `responses_have_one_reading`
pub mod AnswerLemmas
-- `read_request`: `needed`, for the bytes that don't settle a request
pub mod SettledLemmas
-- `requests_have_one_reading`, and `read_request`: `only`
pub mod ReadingLemmas
