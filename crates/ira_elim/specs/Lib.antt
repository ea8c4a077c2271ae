pub mod Decided
pub mod Elimination
pub mod Found
pub mod Laws
pub mod LeastCut
pub mod PairSet
pub mod CandidateClock
