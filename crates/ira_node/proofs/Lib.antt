pub mod Answers
pub mod Inversions
pub mod Plain
pub mod Ranges
pub mod Wants
