pub mod Default
pub mod Marks
pub mod Open
pub mod Rooms
pub mod Write
pub mod Writing
