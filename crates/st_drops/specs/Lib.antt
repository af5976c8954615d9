pub mod Covers
pub mod Ends
pub mod Left
