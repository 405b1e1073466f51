pub mod Check
pub mod Table
pub mod Alike
pub mod Line
