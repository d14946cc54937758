-- What the functions inside this layer promise each other; no public promise cites these.
pub mod Lists
pub mod Who
pub mod Known
pub mod Layout
pub mod Memory
pub mod Explain
pub mod Bound
pub mod Range
pub mod Reach
pub mod Look
pub mod Levels
pub mod Search
