pub mod Made
pub mod Pairs
pub mod Told
pub mod Balances
