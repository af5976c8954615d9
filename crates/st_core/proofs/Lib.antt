mod Named
mod Options
mod Events
mod Written
mod Refusals
mod InstalledJobs
mod Flushes
