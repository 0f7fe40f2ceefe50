pub mod Faults
mod Sinks
pub mod Sources
