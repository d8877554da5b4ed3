pub mod Outside
pub mod Fetch
pub mod Http
pub mod Pile
pub mod Intake
pub mod Line
pub mod Part
pub mod Laws
