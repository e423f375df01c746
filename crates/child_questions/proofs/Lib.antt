pub mod AllThere
pub mod AnnotationCounts
