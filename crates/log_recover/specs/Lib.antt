pub mod Faults
pub mod Opens
pub mod Contents
pub mod Store
