pub mod Told
pub mod Runs
pub mod Demand3
