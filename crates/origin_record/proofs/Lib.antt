pub mod Different
pub mod ReadingLemmas
pub mod RoundTables
