pub mod Digits
pub mod Faults
pub mod Files
pub mod Headers
pub mod Parts
pub mod Sides
