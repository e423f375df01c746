pub mod PartReadings
pub mod QuestionReadings
pub mod HostReadings
pub mod Decodings
