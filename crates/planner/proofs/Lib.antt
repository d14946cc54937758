-- The modules of `proofs/` that belong to no one function.
pub mod Chains
pub mod TrueMemory
pub mod CellMemory
pub mod LastNoted
pub mod Explanations
pub mod Pruning
pub mod Reckoning
pub mod Beliefs
pub mod Bounds
pub mod Slots
pub mod ExplainedCall
pub mod StartSlot
pub mod SameBytes
pub mod EarliestList
pub mod SearchCall
