pub mod Cells
mod Blocks
