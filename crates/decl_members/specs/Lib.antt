pub mod NamedMembers
