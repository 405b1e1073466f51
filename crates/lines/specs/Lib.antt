pub mod Line
pub mod Wrote
