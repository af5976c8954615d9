mod Passes
mod Cuts
mod Searching
