pub mod Entry
pub mod Faults
pub mod Spells
pub mod Refusal
pub mod Parts
pub mod Laws
