-- `draw_wish` and `draw_stop`
pub mod WishLemmas
-- `wish_request` and what it calls
pub mod RequestLemmas
-- `ask`, `crash` and `show`: the outcome of a request
pub mod OutcomeLemmas
-- the events of a turn
pub mod PathLemmas
-- `ask`, `crash` and `make`
pub mod TurnLemmas
-- `have_turn`: the live members
pub mod MemberLemmas
-- `Course::note` and `have_turn`
pub mod CourseLemmas
-- `show` and `offer`
pub mod OfferLemmas
-- `have_whole_turn` and `have_turns`
pub mod DrillLemmas
-- `summarize`
pub mod EndLemmas
-- `Summary::print`
pub mod SummaryLemmas
