-- The laws that the proofs of this crate cite, and what its contracts leave open: nothing.
pub mod SameLaws
pub mod MarkedLaws
pub mod ValuesLaws
pub mod PlacedLaws
pub mod RecordsLaws
pub mod ChosenLaws
pub mod AskLaws
pub mod BuildLaws
pub mod ReplyLaws
pub mod SettleLaws
pub mod ReadLaws
pub mod Unique
pub mod MeansLaws
