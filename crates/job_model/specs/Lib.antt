pub mod Column
pub mod Drops
pub mod Compaction
pub mod ByKey
pub mod Level
pub mod Pick
