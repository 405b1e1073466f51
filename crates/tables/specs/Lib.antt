pub mod Judged
pub mod Walked
pub mod Able
