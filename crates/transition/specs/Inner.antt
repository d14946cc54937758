-- What the functions inside this layer promise each other; no public promise cites these.
pub mod Change
pub mod Fire
pub mod Round
pub mod Steppable
