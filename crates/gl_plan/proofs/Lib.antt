pub mod Rows
pub mod Circles
pub mod Edges
pub mod Proxies
pub mod Parts
pub mod Limits
pub mod Sound
