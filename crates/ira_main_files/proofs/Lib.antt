pub mod LeadersTexts
pub mod Reading
