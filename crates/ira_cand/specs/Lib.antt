pub mod Ahead
pub mod Candidates
pub mod CandidatesFound
pub mod Holding
pub mod HoldsAt
pub mod Laws
pub mod Meets
pub mod Profile
