pub mod Verbs
pub mod Families
pub mod Samples
pub mod Page
pub mod Health
pub mod Requests
pub mod Answers
pub mod Followers
