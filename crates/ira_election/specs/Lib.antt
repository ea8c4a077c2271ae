pub mod AnOrder
pub mod Draws
pub mod Ending
pub mod GoingOn
pub mod Rounds
pub mod StandingStill
pub mod Tables
pub mod Ways
