pub mod Grouped
pub mod Holding
pub mod Sizes
pub mod WrittenOpens
pub mod Writing
