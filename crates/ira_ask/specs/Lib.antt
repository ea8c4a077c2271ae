pub mod Asked
pub mod AskedTexts
pub mod Choices
pub mod Laws
pub mod Reading
pub mod Sentence
pub mod SentenceAnswer
pub mod SentenceText
