pub mod Held
pub mod ByKey
pub mod Run
pub mod Replace
pub mod State
