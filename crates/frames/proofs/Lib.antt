-- The laws that the proofs of this crate cite, and what its contracts leave open: nothing.
pub mod DataLaws
pub mod HearLaws
pub mod NumberLaws
pub mod FillLaws
pub mod LayLaws
pub mod Unique
pub mod Named
