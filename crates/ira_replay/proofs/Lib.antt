pub mod Alike
pub mod Along
pub mod FirstFaults
pub mod Reached
