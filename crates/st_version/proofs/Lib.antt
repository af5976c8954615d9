mod Apart
mod ByKey
pub mod Found
mod Counted
mod FoundIn
mod Placed
mod AllParts
mod Shared
mod Same
mod Steps
