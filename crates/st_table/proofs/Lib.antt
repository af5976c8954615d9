pub mod Acting
pub mod Arena
pub mod Behind
pub mod ExternalOwn
pub mod Inverse
pub mod Lengths
pub mod Reread
pub mod Tables
