pub mod Seen
pub mod Before
pub mod Table
pub mod Marked
pub mod Marks
pub mod Known
pub mod Passed
