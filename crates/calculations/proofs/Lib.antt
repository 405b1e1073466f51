-- The laws that the proofs of this crate and of its users cite.
pub mod CalculationLaws
pub mod Fits
pub mod Unique
