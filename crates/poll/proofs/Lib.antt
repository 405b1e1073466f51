-- What the contracts of this crate leave open: nothing.
pub mod Unique
