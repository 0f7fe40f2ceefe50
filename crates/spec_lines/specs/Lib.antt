pub mod Line
pub mod Spelled
pub mod Reader
pub mod Rows
pub mod Same
pub mod Within
pub use Rattle.spec_syntax.specs.Proper
