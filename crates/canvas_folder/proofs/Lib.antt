pub mod Careful
pub mod Highest
pub mod Moments
