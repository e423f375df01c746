pub mod AddedTypesLaws
pub mod BoxQuestions
pub mod JudgedQuestions
pub mod ListedMembers
pub mod MemberAnswers
pub mod NamedElements
pub mod NodeKinds
pub mod TypeQuestions
