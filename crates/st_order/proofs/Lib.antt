pub mod Halves
pub mod Mapped
pub mod Ends
pub mod Sorted
pub mod Columns
pub mod Least
