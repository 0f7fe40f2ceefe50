pub mod Edits
pub mod Fates
pub mod Values
pub mod Growth
pub mod Spread
pub mod Plans
pub mod Found
pub mod Results
