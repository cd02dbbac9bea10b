-- Bounds of records, and what shows outside of them.
pub mod Bits
pub mod EdgeLaws
pub mod SlabLaws
pub mod BoundsLaws
pub mod Covered
pub mod Hulled
pub mod Rebounded
pub mod Widened
pub mod WidenedAbove
pub mod Culled
pub mod InSight
pub mod PassedOver
