pub mod ByKind
pub mod GoingOn
pub mod Lines
pub mod Nexts
pub mod Outdrawn
