pub mod RowsLemmas
pub mod IndexLemmas
