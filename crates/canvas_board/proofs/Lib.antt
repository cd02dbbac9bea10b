pub mod Boards
pub mod Seats
pub mod Spared
pub mod Keeping
pub mod Showing
pub mod Ends
pub mod Lasting
pub mod Logging
