pub mod Arrays
pub mod Entries
pub mod Supertypes
