mod Rests
mod Trees
mod Steps
mod Moves
mod Spots
mod Scans
mod Reaching
pub mod Readable
