pub mod Rooms
pub mod Groups
pub mod Turns
pub mod Laws
pub mod Replacement
