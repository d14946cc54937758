-- What functions of this layer promise to the layers above it.
pub mod Classed
pub mod Level
pub mod Look
pub mod Numbers
pub mod OfTable
pub mod Out
pub mod Put
pub mod Start
