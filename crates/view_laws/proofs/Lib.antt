mod Cutting
mod Living
mod Marked
mod Walking
mod Written
