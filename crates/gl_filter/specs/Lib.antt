pub mod Kept
pub mod Told
pub mod Stands
pub mod Marked
