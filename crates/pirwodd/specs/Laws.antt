-- What is proved of the definitions.
pub mod Seen
pub mod Calls
