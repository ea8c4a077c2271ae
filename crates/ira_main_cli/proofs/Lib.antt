pub mod Commands
pub mod Entered
pub mod GivenNames
pub mod Requests
