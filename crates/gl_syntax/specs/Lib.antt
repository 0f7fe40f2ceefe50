pub mod Stop
pub mod Fault
pub mod Elements
pub mod Numbers
