pub mod Decided
pub mod Headings
pub mod ChildForms
pub mod Crowding
pub mod TextAnswers
pub mod EachFile
