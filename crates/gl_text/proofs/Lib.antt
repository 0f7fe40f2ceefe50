pub mod RecordRows
pub mod Passes
pub mod Progress
pub mod Whole
pub mod Texts
