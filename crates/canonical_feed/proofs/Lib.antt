-- canonical_text_is_read: characters of content
pub mod CharacterLemmas
-- canonical_text_is_read: values of attributes
pub mod ValueLemmas
-- canonical_text_is_read: content as a tree
pub mod NodeLemmas
-- canonical_text_is_read: a whole document
pub mod DocumentLemmas
-- canonical_text_is_read: texts without escapes
pub mod CleanLemmas
-- canonical_text_is_read: the parts of an entry as content
pub mod PartNodeLemmas
-- canonical_text_is_read: the pieces of a document as content
pub mod FeedNodeLemmas
-- canonical_text_is_read: the content of a document may stand in its feed
pub mod GoodLemmas
-- canonical_text_is_read: the elements of a content
pub mod KidLemmas
-- canonical_text_is_read: entries, tombstones and the link to the archive before
pub mod ReadLemmas
-- canonical_text_is_read: the address of the archive before
pub mod LinkLemmas
-- canonical_text_is_read: no element is refused
pub mod FaultLemmas
-- canonical_text_is_read: no element of a document is refused
pub mod ClearLemmas
-- canonical_text_is_read: the host of a URL
pub mod HostAsciiLemmas
-- canonical_text_is_read: the text of a URL
pub mod UrlAsciiLemmas
-- canonical_text_is_read
pub mod LawLemmas
