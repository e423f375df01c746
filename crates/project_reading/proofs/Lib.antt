pub mod Refusing
pub mod SourcesOfAProject
pub mod LeastPath
pub mod ProjectLemmas
pub mod Settling
