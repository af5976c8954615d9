pub mod Lines
pub mod Commands
pub mod Script
pub mod Replies
pub mod Readings
