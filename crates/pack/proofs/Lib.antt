pub mod InRange
pub mod Slices
pub mod Tests
pub mod Turns
