pub mod Line
pub mod Lines
pub mod Applied
pub mod Apply
pub mod Stored
pub mod Show
pub mod Crash
pub mod Loaded
