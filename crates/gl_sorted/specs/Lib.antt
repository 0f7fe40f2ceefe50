pub use Rattle.gl_arranged.specs.Stands
pub use Rattle.gl_arranged.specs.Changes
pub mod Leaves
pub mod Merging
pub mod Replaced
pub mod Next
