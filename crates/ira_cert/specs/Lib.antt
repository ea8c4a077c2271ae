pub mod Conjuncts
pub mod Front
pub mod Queues
pub mod QueuesAfter
pub mod LastCount
pub mod Laws
pub mod Positions
pub mod QueueHead
pub mod SearchedLog
pub mod SectionFault
pub mod SharedTable
pub mod SoundSection
pub mod Unsound
pub mod Verdict
pub use Rattle.ira_cert_text.specs.Certificate.{Section, Certificate}
