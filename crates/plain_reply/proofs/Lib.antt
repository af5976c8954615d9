pub mod Decide
pub mod Large
