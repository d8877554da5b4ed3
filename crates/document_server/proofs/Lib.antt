-- `answer`: `leaves` and `settled`
pub mod LeaveLemmas
-- `answer` and its parts: the rows of the table of replies
pub mod RowLemmas
-- `answer`: `answered`, from `over`
pub mod OverLemmas
-- `answer`: `changed`
pub mod ChangedLemmas
-- `create`, `replace`, `delete` and `change`: an operation that is prepared and committed
pub mod ChangeLemmas
-- the parts of `answer`: `steps`
pub mod StepLemmas
-- `shown_are_served`
pub mod ServedLemmas
-- `requests_have_one_outcome`
pub mod OutcomeLemmas
-- the laws, and the answers of `serve`: the service document and the listing
pub mod PageLemmas
-- `serve`: a connection that is served
pub mod LinkLemmas
-- `serve`: the order of the lines, and the device calls that they count
pub mod OrderLemmas
-- `serve`: the images that a crash during the session leaves
pub mod OpensLemmas
-- `serve`: the documents that were sent
pub mod DocumentLemmas
-- `serve`: the exchanges
pub mod SessionLemmas
-- `serve`: the connections that were served so far, and one more
pub mod ServingLemmas
-- `serve`: the operation of a request after which the disk failed
pub mod PendingLemmas
-- `serve`: the load before the connections
pub mod LoadLemmas
