pub mod Status
pub mod Words
pub mod Reading
pub mod BadPlace
pub mod Answer
pub mod Call
