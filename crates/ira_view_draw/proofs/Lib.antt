pub mod Drawings
pub mod Lines
pub mod Moments
