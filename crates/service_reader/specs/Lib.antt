pub mod Service
pub mod ServiceFaults
pub mod ServiceDocument
pub mod ServiceReading
pub mod ServiceLaws
