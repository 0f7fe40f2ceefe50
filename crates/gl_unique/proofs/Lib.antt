pub use Rattle.gl_classes.proofs.Rooms
pub mod Readings
pub mod Steps
pub mod Laws
pub mod Shown
pub mod Replacements
