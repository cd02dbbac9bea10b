pub mod Items
pub mod Pictures
pub mod Words
pub mod Blocks
pub mod Columns
pub mod Strips
pub mod FreeRows
pub mod Workers
