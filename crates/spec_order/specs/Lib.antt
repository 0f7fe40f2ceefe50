pub mod Edges
pub mod Order
pub mod DependencyOrder
pub mod Cycle
