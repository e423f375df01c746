pub mod Index
pub mod ShownMaps
