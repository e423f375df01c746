pub mod Splits
pub mod PhraseReads
pub mod ApartParts
pub mod Rests
pub mod TwoReadings
pub mod FieldRows
pub mod StepLaws
pub mod StepAnswers
