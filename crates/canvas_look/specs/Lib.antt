pub mod Raster
pub mod Seen
pub mod Steps
pub mod Fault
