pub mod EditObjects
pub mod EditReads
pub mod Extras
pub mod Lines
pub mod OneLine
pub mod Texts
