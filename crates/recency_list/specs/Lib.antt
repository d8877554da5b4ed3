pub mod Links
pub mod Recency
