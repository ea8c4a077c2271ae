pub mod Beginning
pub mod Laws
pub mod Longest
pub mod Mended
pub mod RecordedLogs
