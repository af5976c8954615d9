pub mod Joins
mod Shared
mod Positions
mod Halves
mod Sums
mod Finding
