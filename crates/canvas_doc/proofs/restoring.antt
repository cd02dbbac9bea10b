-- Lists of records that are restored as a document.
pub mod ById
pub mod InOrder
pub mod Leads
pub mod Misplaced
pub mod RestoredWell
pub mod Saved
