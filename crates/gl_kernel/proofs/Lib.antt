pub mod Play
pub mod Names
pub mod Fates
pub mod Spreads
pub mod Made
pub mod Leads
pub mod Pairs
pub mod ReadValues
