pub mod CountingReader
pub mod FileName
pub mod LeadersText
pub mod ReadText
pub mod Shelf
pub mod ShelfFault
