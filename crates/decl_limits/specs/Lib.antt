pub mod Texts
pub mod Units
pub mod Names
pub mod Children
pub mod Separators
pub mod ScansShown
pub mod Limits
