pub mod ByKey
mod Lesser
mod LeastByKey
mod LeastOfRun
pub mod Seen
mod Stops
