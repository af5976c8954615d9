pub mod Heads
pub mod WinnerTree
pub mod Walk
pub mod Scan
pub mod Reading
