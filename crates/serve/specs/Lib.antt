pub mod Changes
pub mod Ends
pub mod Promises
pub mod Stretch
