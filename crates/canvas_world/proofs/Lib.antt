pub mod Events
pub mod Strips
pub mod Runs
