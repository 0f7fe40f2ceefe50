pub mod SpelledWords
pub mod Plans
pub mod Pumps
pub mod RequestOutcomes
pub mod AllSections
pub mod CallOutcomes
