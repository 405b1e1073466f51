-- The laws that the proofs of this crate and of its users cite.
pub mod TableLaws
pub mod ToldLaws
pub mod WalkLaws
pub mod PlannedLaws
pub mod Fits
pub mod Unique
