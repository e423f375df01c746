pub mod Rows
pub mod Index
