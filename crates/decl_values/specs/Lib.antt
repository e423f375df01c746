pub mod FieldRows
pub mod Ends
pub mod ConstantRows
pub mod Closings
