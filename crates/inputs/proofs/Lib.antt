-- The laws that the proofs of this crate and of its users cite.
pub mod InputLaws
pub mod Fits
pub mod Unique
