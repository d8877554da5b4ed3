pub mod FeedId
pub mod Item
pub mod Tombstone
