pub mod Cutting
pub mod SpelledBytes
pub mod Joining
pub mod Building
pub mod BuildText
