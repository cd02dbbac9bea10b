pub mod Feed
pub mod Request
pub mod Refusals
pub mod Sending
