pub mod Members
pub mod Attaching
