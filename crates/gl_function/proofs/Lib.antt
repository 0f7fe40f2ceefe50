pub mod Tellings
pub mod Changes
