pub mod Boxes
pub mod Composition
pub mod Ends
pub mod Inverse
pub mod Levels
pub mod Sides
pub mod Turns
