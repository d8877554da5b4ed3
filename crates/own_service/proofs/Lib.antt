-- service_doc_is_read: the document as content, and its text
pub mod ServiceNodeLemmas
-- service_doc_is_read: the whole document
pub mod ServiceDocumentLemmas
-- service_doc_is_read: the one collection
pub mod ServiceReadLemmas
-- service_doc_is_read
pub mod LawLemmas
