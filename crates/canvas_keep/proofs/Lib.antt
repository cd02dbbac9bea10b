pub mod Histories
pub mod Stands
