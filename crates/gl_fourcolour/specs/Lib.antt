pub mod Colours
pub mod Rows
pub mod Counts
pub mod Sums
pub mod Edits
