-- What the functions inside this layer promise each other; no public promise cites these.
pub mod Values
pub mod Pairs
pub mod Match
