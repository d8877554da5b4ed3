pub mod Served
pub mod Laws
