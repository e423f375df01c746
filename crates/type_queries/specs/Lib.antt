pub mod AddedTypes
pub mod MemberLists
pub mod MemberQuestion
pub mod OverridingQuestions
pub mod Questions
pub mod Verdicts
