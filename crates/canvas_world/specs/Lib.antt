pub mod Past
pub mod Transcript
pub mod Tiles
pub mod Pieces
pub mod Worlds
