pub mod ImportRests
pub mod DocTexts
pub mod Smaller
pub mod AnnotationFirsts
