pub mod Words
pub mod Build
