pub mod Links
pub mod SearchBounds
pub mod Edits
