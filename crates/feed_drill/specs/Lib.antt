pub mod Draws
pub mod Turn
pub mod Requests
pub mod Events
pub mod Drilled
pub mod Summary
pub mod Effects
