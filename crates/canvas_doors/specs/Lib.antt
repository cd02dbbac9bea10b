pub mod Accepting
pub mod Beginning
pub mod Foreign
pub mod Gate
pub mod Outlet
pub mod Seats
pub mod Waits
