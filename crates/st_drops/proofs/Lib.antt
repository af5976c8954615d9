mod Lists
mod Members
mod Runs
mod Turns
mod Extremes
mod Covers
mod Levels
