-- The laws that the proofs of this crate and of its users cite.
pub mod TimeLaws
pub mod Unique
