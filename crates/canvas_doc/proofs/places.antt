-- The order of records by place.
pub mod ByPlace
pub mod Placed
pub mod PlacePoints
pub mod PlaceSorted
pub mod ChildrenInOrder
pub mod Reordered
pub mod LeftOut
