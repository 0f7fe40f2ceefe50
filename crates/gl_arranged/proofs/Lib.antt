pub mod Ranks
pub mod Notes
pub mod Lists
pub mod Backward
pub mod Rooms
pub mod MarkSteps
pub mod OldValues
pub use Rattle.spec_lang.proofs.Sortings
