-- serves `Mirror::walk` and `walks_ask_for_nothing_twice`: what is held after an accepted document
pub mod NewLemmas
-- serves `Mirror::walk` and `walks_ask_for_nothing_twice`: answers within the capacity of the area
pub mod RoomLemmas
-- serves `walks_ask_for_nothing_twice`: the addresses of a walk
pub mod WalkLemmas
-- serves `Mirror::walk`: a walk so far, and how it goes on
pub mod WalkRunLemmas
-- serves the calls that pass a fault on
pub mod PassedLemmas
-- serves `Mirror::offer` and `Mirror::walk`: what calls keep, and how they join
pub mod SoundLemmas
-- serves `Mirror::walk`: one visit of a walk
pub mod VisitLemmas
-- serves `Mirror::visit`
pub mod VisitAnswerLemmas
-- serves `Mirror::visit_all`
pub mod VisitsLemmas
-- serves `Mirror::visit_all`: what the source answered so far
pub mod GivenLemmas
-- serves `Mirror::walk` and its callers: the walk by what the source answered
pub mod GivenWalkLemmas
-- serves `Mirror::walk`, `served`, and its callers: what is held after a walk
pub mod WalkServedLemmas
-- serves `served_documents_show_the_fold`: the documents that one feed serves
pub mod FeedDocumentLemmas
-- serves `served_documents_show_the_fold`: which of the held documents are found
pub mod FoundLemmas
-- serves `served_documents_show_the_fold`: the answer to one document of the feed
pub mod AcceptedLemmas
-- serves `served_documents_show_the_fold`: the answers to all offers, and what is held afterwards
pub mod OfferedLemmas
-- serves `served_documents_show_the_fold`, and the clauses `served` of `Mirror::offer` and `Mirror::outcome`
pub mod MirrorLemmas
-- serves `Mirror::outcome`: the items of a document in `list_items`
pub mod ListedItemsLemmas
-- serves `Mirror::outcome`: the live entries of a list of documents
pub mod EntriesLemmas
-- serves `Mirror::outcome` and `Mirror::offer`: the base map
pub mod BaseLemmas
-- serves `Mirror::outcome`: the number of live entries
pub mod ListedCountLemmas
-- serves `Mirror::outcome`: what is missing
pub mod OutcomeLemmas
-- serves `Mirror::next_live`
pub mod NextLiveLemmas
-- serves `Mirror::next_live` and `Mirror::entry`, `published`
pub mod PublishedLemmas
-- serves `Mirror::offer`: what is held once one more document is held
pub mod PushLemmas
-- serves `Mirror::wanted` and `Mirror::offer`: the greatest number of an archive that isn't held
pub mod GapLemmas
-- serves `Mirror::wanted`
pub mod MissingLemmas
-- serves `Mirror::offer`: what is kept beside the documents once one more document is held
pub mod IndexLemmas
-- serves `Mirror::offer`, `answer` and `first_fit`
pub mod AcceptLemmas
-- serves `Mirror::offer`, `answer`: the numbers of an archive
pub mod NumberLemmas
-- serves `Mirror::offer`, `answer`: a document's own address
pub mod AddressLemmas
-- serves `Mirror::load` and `Mirror::offer`: documents that are taken one after another
pub mod TakenLemmas
-- serves `Mirror::next_live`, `loaded`, and the crates above: what is true of the documents held
pub mod HeldLemmas
-- serves `Mirror::load`: why no mirror is loaded
pub mod LoadLemmas
-- serves `Mirror`: the size of its log
pub mod SizeLemmas
-- serves `Mirror::offer`: `answer`, `first_fit` and `served`
pub mod WithinLemmas
-- serves `Mirror::offer`: `moments` and `rests`
pub mod StepLemmas
-- serves `Mirror::load`: its steps, one after another
pub mod ReadingLemmas
-- serves `Mirror::load`: the clause `refusal`
pub mod RefusedLemmas
-- serves `Mirror::load`: the first document
pub mod FirstLemmas
-- serves `Held::offer`
pub mod HeldOfferLemmas
-- serves `Mirror::offer`: what the checks found
pub mod CheckedLemmas
-- serves `Mirror::entry`: the entries that are read back
pub mod RereadLemmas
-- serves `Mirror::entry`: the places of the items' pieces
pub mod PlaceLemmas
-- the crates above: the live entries in order of number
pub mod InOrderLemmas
-- serves `Mirror::document`, and the crates above: the documents held at their addresses
pub mod DocumentLemmas
