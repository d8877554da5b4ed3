pub mod Making
pub mod Rebuild
pub mod Repair
pub mod Scrub
pub mod Steps
pub mod Survey
pub mod Verdict
