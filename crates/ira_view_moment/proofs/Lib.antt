pub mod Added
pub mod Drawing
pub mod Lacking
pub mod OnTheWay
pub mod Progress
pub mod Those
