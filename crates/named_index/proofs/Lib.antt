pub mod Families
pub mod Knowing
pub mod Judged
