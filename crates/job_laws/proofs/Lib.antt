pub mod RangeKeys
pub mod Rules
pub mod Rightward
pub mod Rising
pub mod Ranges
pub mod DropRuns
pub mod Shown
