-- What functions of this layer promise to the layers above it.
pub mod Said
pub mod Table
pub mod Judge
pub mod Write
pub mod Copy
pub mod Answer
pub mod Places
pub mod Contents
pub mod Effects
