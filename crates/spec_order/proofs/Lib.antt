pub mod Acyclic
pub mod Exists
pub mod Prefixes
pub mod Members
pub mod Stuck
pub mod Walks
