pub mod GrownTypes
pub mod RememberedAnswers
pub mod RememberedSupertypes
