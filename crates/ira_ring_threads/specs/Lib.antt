pub mod FinishedNode
pub mod NodeFrames
pub mod NodeTask
pub mod Recorder
pub mod TaskPromise
