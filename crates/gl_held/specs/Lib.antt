pub mod Levels
pub mod Parts
pub mod Kept
pub mod Copied
pub mod Back
pub mod CopiedBack
pub mod Rows
