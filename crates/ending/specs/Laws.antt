-- What is proved of the definitions.
pub mod Shown
pub mod Decimal
pub mod Lent
