pub mod Sharing
pub mod Texts
