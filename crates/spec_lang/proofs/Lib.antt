pub mod Sortings
pub mod Lists
pub mod KindCases
