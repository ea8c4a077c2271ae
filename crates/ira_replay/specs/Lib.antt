pub mod Laws
pub mod LocalRun
pub mod StatesLeft
pub mod StatesOfLog
