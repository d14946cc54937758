pub mod Happening
pub mod Laws
pub mod Duties
pub mod Inner
pub mod Step
pub mod Answers
pub mod Replies
pub mod Promises
