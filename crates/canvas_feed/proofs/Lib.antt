pub mod Feeds
pub mod FirstLines
pub mod Sent
