pub use Rattle.gl_classes.specs.Stands
pub mod Reading
pub mod Replacing
