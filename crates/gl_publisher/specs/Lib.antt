pub mod Distances
pub mod Fault
pub mod Shortest
pub mod Waiting
