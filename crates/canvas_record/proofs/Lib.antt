pub mod Accepted
pub mod Histories
pub mod NeverMemory
pub mod Walk
