pub mod Service
pub mod Listing
pub mod Page
pub mod Reply
pub mod Laws
