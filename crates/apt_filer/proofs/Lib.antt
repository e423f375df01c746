pub mod Folders
pub mod NamesLemmas
pub mod FilerSets
pub mod FilingLemmas
pub mod OrderLemmas
pub mod ReportLemmas
pub mod OriginLemmas
