-- The laws that the proofs of this crate cite, that its contracts say everything, that a run of calls is the definition's run, and demand 3 of it.
pub mod ToldLaws
pub mod ValidLaws
pub mod Unique
pub mod RunLaws
pub mod Demand3
pub mod RoomLaws
pub mod PlanLaws
