pub mod Doc
pub mod Entries
pub mod Members
pub mod Parts
pub mod Pieces
pub mod Pieced
pub mod Reading
