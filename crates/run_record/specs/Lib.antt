pub mod Shapes
pub mod Next
pub mod Stands
pub mod Asked
