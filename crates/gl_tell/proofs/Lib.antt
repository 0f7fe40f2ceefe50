pub mod ByList
pub mod Handings
pub mod Turns
pub mod Tellings
