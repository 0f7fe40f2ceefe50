pub mod OldElements
pub mod LevelLists
pub mod Retreats
pub mod Copies
pub mod PartLists
pub mod PartElements
