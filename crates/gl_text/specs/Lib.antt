pub mod Goes
pub mod Blocks
pub mod Spelled
pub mod Texts
pub mod Sorts
