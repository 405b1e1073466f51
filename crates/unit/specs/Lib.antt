pub mod Events
pub mod Fresh
pub mod Calls
pub mod Samples
