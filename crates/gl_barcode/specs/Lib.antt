pub mod Bars
pub mod Held
