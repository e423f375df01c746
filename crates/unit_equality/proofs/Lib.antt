pub mod PartsEqual
pub mod SameShapes
