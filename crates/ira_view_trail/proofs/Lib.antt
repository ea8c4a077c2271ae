pub mod Few
pub mod Lines
pub mod Picked
pub mod Played
pub mod Reached
pub mod RightRows
pub mod Walked
