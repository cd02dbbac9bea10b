pub mod P6
pub mod Header
pub mod Fault
pub mod Image
pub mod File
