pub mod MirrorParts
pub mod Remembered
pub mod Scopes
pub mod Spelling
