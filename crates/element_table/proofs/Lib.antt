mod Counts
pub mod Endings
mod MemberLaws
mod PackageLaws
pub mod Paths
pub mod TableLaws
