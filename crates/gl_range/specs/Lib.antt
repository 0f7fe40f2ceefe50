pub mod Kept
pub mod Told
pub mod Walks
pub mod Stands
