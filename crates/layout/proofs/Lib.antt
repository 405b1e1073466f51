-- The laws that the proofs of this crate and of its users cite.
pub mod RegionLaws
pub mod UnitLaws
pub mod PlacedLaws
pub mod UnitOne
pub mod BlankLaws
pub mod NumbersLaws
pub mod PlaceLaws
pub mod KeepLaws
pub mod RangeLaws
pub mod JudgedLaws
pub mod ContactLaws
pub mod MemoryLaws
pub mod TableLaws
pub mod RecordsLaws
pub mod MeansLaws
pub mod Unique
