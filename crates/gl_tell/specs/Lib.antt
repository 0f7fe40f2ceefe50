pub mod Told
pub mod Heard
pub mod Handed
pub mod Listeners
pub mod Teller
