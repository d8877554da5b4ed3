-- serves `foreign_walk`: the addresses that a walk knows
pub mod KnownLemmas
-- serves `foreign_walk`: a walk so far, and how it goes on
pub mod SoFarLemmas
-- serves `walks_end_in_one_way`: the answers determine the walk
pub mod OneWayLemmas
-- serves `walks_end_in_one_way`: no address is asked twice
pub mod OnceLemmas
