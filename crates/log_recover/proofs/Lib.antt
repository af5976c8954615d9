pub mod Store
pub mod Replay
pub mod Same
