-- Children of a parent from front to back, their indexes, and the index of a spot.
pub mod Fronts
pub mod Sorting
pub mod Spotted
pub mod Free
pub mod Ends
pub mod Neighbours
pub mod Taken
