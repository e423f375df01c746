pub mod Layers
pub mod Same
