pub mod Kept
pub mod Edits
pub mod Stands
pub mod Rows
pub use Rattle.gl_kernel.specs.Found
pub use Rattle.gl_delta.specs.Model
pub use Rattle.gl_delta.specs.declared.find.Find
