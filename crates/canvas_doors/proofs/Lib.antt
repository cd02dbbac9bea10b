pub mod Begun
pub mod Passing
pub mod Written
