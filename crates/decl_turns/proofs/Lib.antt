pub mod Chosen
pub mod FirstParts
pub mod TwoThere
