pub mod Summary
pub mod Tree
pub mod Nodes
pub mod Edits
pub mod Finds
pub mod Ranked
pub mod Sought
pub mod Descending
