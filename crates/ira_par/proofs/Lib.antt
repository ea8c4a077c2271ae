pub mod Answered
pub mod Begins
pub mod Clear
pub mod First
pub mod Found
pub mod Halves
pub mod CaseTables
pub mod Verdicts
