pub mod Decide
pub mod Applies
pub mod Joined
pub mod Cut
pub mod Seen
pub mod Along
pub mod Accepted
pub mod Whole
