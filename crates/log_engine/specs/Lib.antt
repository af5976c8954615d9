pub mod Newest
pub mod Op
pub mod MarkStore
pub mod Engine
