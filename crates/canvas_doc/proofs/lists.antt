-- Lists: members, and lists that are filled item by item.
pub mod Tests
pub mod Members
pub mod SameMembers
pub mod Listing
