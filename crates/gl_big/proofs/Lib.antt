pub mod Letters
pub mod Numbering
pub mod Counting
pub mod Formed
pub mod Large
pub mod Opening
