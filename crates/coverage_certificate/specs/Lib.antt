pub mod Digest
pub mod Certificate
pub mod Text
pub mod Reading
pub mod Live
pub mod Held
pub mod Served
