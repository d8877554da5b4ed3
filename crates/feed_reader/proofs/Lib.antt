-- EntryParts, FeedParts: the children of a name
pub mod NamedLemmas
-- read_children: the elements of a content, whatever characters are between them
pub mod ChildrenLemmas
-- FeedParts, EntryParts, document: what an element of a feed is refused for itself
pub mod FeedFaultLemmas
-- FeedParts, EntryParts: what is read so far, child by child
pub mod FeedPartLemmas
-- bytes_are_read_as_a_feed_in_one_way, read_feed: a feed document is read in one way
pub mod FeedLawLemmas
-- joined, target: the URL that a reference leads to
pub mod FeedLinkLemmas
-- EntryParts::child, FeedParts::child: what a child is refused for, as it is read
pub mod FeedOwnLemmas
-- EntryParts: the parts of an entry, child by child
pub mod FeedEntryLemmas
-- EntryParts::entry, FeedParts::entry, document: what is made of the parts, or the refusal
pub mod FeedMadeLemmas
-- FeedParts: the parts of a feed, child by child
pub mod FeedReadLemmas
-- document, read_feed_parts, read_feed: a document that is read to its end, and its refusals
pub mod FeedEndLemmas
-- EntryParts::child, FeedParts::child: a child is read, skipped or refused
pub mod FeedChildLemmas
