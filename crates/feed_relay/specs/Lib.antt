pub mod Reply
pub mod Fetch
pub mod Laws
