pub mod Changes
pub mod Kept
pub mod Marks
pub mod Notes
pub mod OldValues
pub mod Stands
pub mod Steps
pub use Rattle.spec_lang.specs.Sorting
