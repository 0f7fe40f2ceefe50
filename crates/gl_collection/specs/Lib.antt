pub mod Kept
pub mod Told
pub mod Stands
pub use Rattle.gl_delta.specs.declared.find.KernelFault
