-- The laws that the proofs of this crate and of its users cite.
pub mod Tests
pub mod WroteLaws
pub mod ReadLaws
pub mod ShownLaws
pub mod Unique
