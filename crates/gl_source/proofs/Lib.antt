pub mod Built
pub mod Logs
pub mod Leads
pub use Rattle.gl_kernel.proofs.Play
