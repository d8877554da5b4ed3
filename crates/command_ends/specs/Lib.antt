pub mod Status
pub mod Answer
pub mod Fault
pub mod StoreFaults
pub mod Ends
pub mod Printed
pub mod Summary
