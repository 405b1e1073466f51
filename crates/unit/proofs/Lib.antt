-- The laws that the proofs of this crate and of its users cite.
pub mod HeedLaws
pub mod EventLaws
pub mod MeanLaws
pub mod SampleLaws
pub mod FreshLaws
pub mod CallLaws
pub mod Unique
