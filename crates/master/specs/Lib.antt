pub mod Polled
pub mod Built
pub mod Taken
pub mod Marked
