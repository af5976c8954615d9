pub mod Standing
pub mod History
pub mod Prefix
pub mod Publisher
pub mod Rule
