pub mod Session
pub mod Relay
