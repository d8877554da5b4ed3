pub mod Feed
pub mod FeedFaults
pub mod FeedDocument
pub mod Rest
pub mod FeedReading
pub mod FeedLaws
