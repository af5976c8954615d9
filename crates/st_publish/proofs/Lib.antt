pub mod Prefixes
pub mod Adding
pub mod Many
pub mod StandsOn
pub mod Meaning
pub mod Rises
