pub mod Connection
pub mod Doors
pub mod Faults
pub mod Settings
pub mod Statuses
pub mod Words
