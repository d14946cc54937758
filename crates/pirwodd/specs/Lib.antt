pub mod Report
pub mod Exports
pub mod Told
pub mod Laws
pub mod Theorems
