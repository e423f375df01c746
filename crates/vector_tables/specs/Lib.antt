pub mod Cases
pub mod TokenRows
pub mod FrameCases
pub mod FrameRows
pub mod Answers
pub mod Words
