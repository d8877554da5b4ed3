-- Found::add, document: what a collection or the root is refused for itself
pub mod ServiceFaultLemmas
-- Accepts::entries, InCollection::child: the `accept` children of a collection
pub mod ServiceAcceptLemmas
-- Found::add, InWorkspace::child, InService::child: the collections that are read so far
pub mod ServiceFoundLemmas
-- bytes_are_read_as_a_service_in_one_way, read_service: a service document is read in one way
pub mod ServiceLawLemmas
-- read_root, document, read_service: a document that is read to its end, and its refusals
pub mod ServiceEndLemmas
