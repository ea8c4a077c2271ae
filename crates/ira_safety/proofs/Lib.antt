pub mod Course
pub mod Cuts
pub mod Leaders
pub mod Runs
pub mod Sendings
pub mod Steps
pub mod Terms
pub mod TwoNodes
