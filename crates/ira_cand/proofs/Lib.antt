pub mod Passing
pub mod Profiles
pub mod Rising
pub mod Skips
pub mod Upgraded
