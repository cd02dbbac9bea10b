-- The damage of a change: what shows outside of the extents of its shape.
pub mod Pulled
pub mod Shown
pub mod Extents
pub mod Untouched
pub mod Besides
pub mod Damaged
pub mod AfterChange
pub mod BothExtents
