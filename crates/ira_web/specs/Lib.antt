pub mod Files
pub mod Request
pub mod Serves
pub mod Spelling
pub mod Told
