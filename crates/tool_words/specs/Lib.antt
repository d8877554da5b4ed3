pub mod Laws
pub mod Line
pub mod Numbers
pub mod Options
pub mod Parse
pub mod Reading
pub mod Words
