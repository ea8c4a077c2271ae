pub mod Argument
pub mod Asked
pub mod CommandEntry
pub mod CommandLine
pub mod Options
pub mod Request
