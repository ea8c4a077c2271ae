pub mod Arrow
pub mod Band
pub mod DrawFault
pub mod Lane
pub mod Picture
pub mod Rows
pub mod Traffic
pub mod Window
