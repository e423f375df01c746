pub mod Numbers
pub mod Reading
pub mod Shape
pub mod Shapes
