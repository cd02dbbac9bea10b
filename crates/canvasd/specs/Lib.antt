pub mod Statuses
pub mod Holding
pub mod Seats
pub mod Addresses
pub mod History
pub mod Feed
