pub mod Generations
pub mod Making
pub mod States
