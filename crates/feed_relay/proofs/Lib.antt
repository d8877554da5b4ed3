-- serves `RelayFetch` and `relays_answer_what_is_served`: which document a relay has at an address
pub mod AnswerLemmas
-- serves `RelayFetch`: how its calls leave it
pub mod GetsLemmas
-- serves `walks_of_relays_keep_what_is_served`
pub mod ServedLemmas
-- serves `walks_of_relays_show_the_same`: the answer to a document of the relay
pub mod TakenLemmas
-- serves `walks_of_relays_show_the_same`: the walk
pub mod SameLemmas
-- serves `relay_answer`: the reply to a GET
pub mod ReplyLemmas
