pub mod ListedTexts
pub mod TypeTexts
