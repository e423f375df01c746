pub mod BaseLayers
pub mod LayerLaws
pub mod PartsEqual
pub mod SameLaws
