pub mod Pass
pub mod Search
pub mod Cut
pub mod Kept
