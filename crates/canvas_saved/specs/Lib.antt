pub mod Faults
pub mod Formats
pub mod Kept
pub mod Opened
pub mod Records
pub mod Saved
pub mod SavedText
