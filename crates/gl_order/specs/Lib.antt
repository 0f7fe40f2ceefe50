pub mod Arranged
pub mod Linked
pub mod Search
