pub mod Sst
