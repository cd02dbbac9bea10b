pub mod Course
pub mod Outcomes
