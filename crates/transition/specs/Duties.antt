-- What functions of this layer promise to the layers above it.
pub mod Cause
pub mod Play
pub mod Stage
