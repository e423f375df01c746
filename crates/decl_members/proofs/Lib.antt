pub mod ApartLists
pub mod TypedMembers
