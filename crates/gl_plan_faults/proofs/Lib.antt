pub mod Numbers
pub mod Built
pub mod MarkedNumbers
pub mod Reach
pub mod Finds
pub mod Early
pub mod Few
pub mod PassedLines
