pub mod IndexLaws
pub mod TextMaps
