pub mod Sections
pub mod Share
pub mod CandidateTable
pub mod Halves
pub mod Task
