pub mod Explaining
pub mod Leads
pub mod Searching
pub mod Answers
pub mod Played
pub mod Replies
pub mod Readings
pub mod Starred
