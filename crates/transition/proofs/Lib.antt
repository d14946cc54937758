-- The modules of `proofs/` that belong to no one function.
pub mod Effects
pub mod ChangePass
pub mod FiringTriggers
pub mod Stages
pub mod PartOne
pub mod Rounds
pub mod SilentRounds
pub mod PlayedInSlot
pub mod StepOnCharts
pub mod StepCall
