pub mod Tellings
pub mod Kept
pub mod SliceBounds
