pub mod Fault
pub mod Held
pub mod Node
pub mod Falls
pub mod Shape
pub use Rattle.spec_value.specs.Tree
