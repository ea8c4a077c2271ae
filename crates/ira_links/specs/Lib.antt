pub mod Counts
pub mod Frame
pub mod Known
pub mod Limits
pub mod LinkEnd
pub mod Rule
