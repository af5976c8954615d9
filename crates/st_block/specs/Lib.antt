pub mod Block
pub mod Entry
pub mod InternalKey
pub mod BlockContents
pub mod Search
pub mod Written
