pub mod Address
pub mod Base
pub mod Checked
pub mod Front
pub mod PartOffsets
pub mod Place
