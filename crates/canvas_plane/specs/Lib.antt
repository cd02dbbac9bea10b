pub mod Limits
pub mod Motion
pub mod Page
pub mod Sides
pub mod Window
