pub mod Occurrence
pub mod Counts
pub mod Live
pub mod Laws
pub mod Tally
pub mod Added
