pub mod FinishedNodes
pub mod FramesOfLongerLogs
pub mod NodeTasks
pub mod RecorderGrows
pub mod Recordings
pub mod SettledLinks
pub mod Versions
pub mod WantedEvents
