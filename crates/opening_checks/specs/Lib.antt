pub mod Least
pub mod Logs
pub mod Repeats
pub mod Meeting
pub mod Walk
pub mod Heads
pub mod Counted
