pub mod Memtable
pub mod Runs
