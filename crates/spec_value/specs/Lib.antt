pub mod Tree
pub mod Code
pub mod Order
pub mod Name
pub mod Rows
