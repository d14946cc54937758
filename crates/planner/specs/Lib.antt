pub mod Ending
pub mod Laws
pub mod Inner
pub mod Search
pub mod Answers
pub mod Replies
pub mod Promises
pub mod Readings
