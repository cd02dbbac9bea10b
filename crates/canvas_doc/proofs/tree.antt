-- The page tree: records by id, paths up to the page, depths and heights.
pub mod Parents
pub mod Found
pub mod Searched
pub mod Paths
pub mod Maps
pub mod OneChanged
pub mod Marks
pub mod DepthAgrees
pub mod Ways
pub mod Deep
pub mod Childless
pub mod Heights
