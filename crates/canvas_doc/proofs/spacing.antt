-- New indexes for the children of a parent.
pub mod Respaced
pub mod Spaced
pub mod Respacing
pub mod Respacings
