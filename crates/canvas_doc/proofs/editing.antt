-- The two lists of a document after an edit.
pub mod Placements
pub mod Created
pub mod InPlace
