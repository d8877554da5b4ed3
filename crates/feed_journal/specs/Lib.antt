pub mod Ahead
pub mod Framed
pub mod Laws
pub mod Limits
pub mod Log
pub mod Reading
pub mod Records
pub mod Scan
