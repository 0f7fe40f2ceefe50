pub mod Table
pub mod Ends
pub mod Chains
pub mod Named
pub mod Keywords
pub mod Members
pub mod Endings
