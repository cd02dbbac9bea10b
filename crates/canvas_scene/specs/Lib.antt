pub mod Cells
pub mod Clips
pub mod Covers
pub mod Nodes
pub mod Places
pub mod Scenes
pub mod Trees
