-- The laws that the proofs of this crate and of its users cite.
pub mod KeptLaws
pub mod OutcomeLaws
pub mod FitLaws
pub mod EndingLaws
pub mod TameLaws
pub mod CommandLaws
pub mod BroadcastLaws
pub mod StepLaws
pub mod TellingLaws
pub mod ServedLaws
pub mod ToldLaws
pub mod StretchLaws
pub mod AheadLaws
pub mod PairedLaws
pub mod Unique
