pub mod Outside
pub mod Pile
pub mod Drill
pub mod Run
pub mod Serve
pub mod Ran
