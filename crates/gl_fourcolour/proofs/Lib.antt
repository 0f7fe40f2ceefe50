pub mod Expansions
pub mod Maximal
pub mod Weights
pub mod Spots
pub mod Puts
pub mod Removals
pub mod Questions
pub mod Outcomes
