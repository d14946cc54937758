-- The modules of `proofs/` that belong to no one function.
pub mod CopyPass
pub mod Classes
pub mod ValueClasses
pub mod Levels
pub mod PartitionLevels
pub mod RowsOut
pub mod QueryCall
pub mod MergedStart
pub mod StartCall
pub mod JoinedCharts
pub mod MetPairs
pub mod SoughtPair
pub mod WayBack
pub mod MatchedRows
pub mod CompareCall
