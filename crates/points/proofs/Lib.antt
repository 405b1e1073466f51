-- The laws that the proofs of this crate and of its users cite.
pub mod NumberLaws
pub mod AnswerLaws
pub mod ChangeLaws
pub mod ContactLaws
pub mod AnewLaws
pub mod MeansLaws
pub mod Fits
pub mod Unique
