pub mod Lines
pub mod Told
pub mod Held
pub mod Counts
