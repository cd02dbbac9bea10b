pub mod Fault
pub mod Alone
pub mod Shared
pub mod Past
pub mod Kept
pub mod Exports
