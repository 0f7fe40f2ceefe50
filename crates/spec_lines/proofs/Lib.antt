pub mod Apart
pub mod Composites
pub mod Lines
pub mod Placed
pub mod Same
pub mod Columns
pub mod Within
