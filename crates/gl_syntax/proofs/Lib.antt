pub mod Chars
pub mod Words
pub mod Elements
pub mod LineCuts
pub mod Numbers
pub mod Digits
