pub mod Reply
pub mod Answer
pub mod Laws
pub mod Door
pub mod Served
pub mod Session
pub mod Serving
