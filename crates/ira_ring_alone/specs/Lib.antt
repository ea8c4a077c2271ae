pub mod Existence
pub mod LoneNode
pub mod LoneRing
pub mod SeededRun
