-- The laws that the proofs of this crate and of its users cite.
pub mod PortLaws
pub mod Taken
pub mod Unique
