pub mod Conn
pub mod Request
pub mod Heard
pub mod Settled
pub mod Response
pub mod Put
pub mod Reply
