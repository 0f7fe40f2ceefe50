pub mod Tellings
pub mod Shown
pub mod ShownMarks
pub mod Changes
pub mod Skips
pub mod Passes
pub mod Cases
