pub mod Prefixes
pub mod Windows
