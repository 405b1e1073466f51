-- The laws that the proofs of this crate and of its users cite.
pub mod BlockLaws
pub mod MeansLaws
pub mod AnswerLaws
pub mod Unique
