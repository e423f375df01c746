pub mod AnswerLemmas
pub mod ContainmentLaws
pub mod EachOnce
pub mod Growing
pub mod LevelLaws
pub mod MoreSteps
