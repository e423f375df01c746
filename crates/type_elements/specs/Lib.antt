pub mod MemberElements
pub mod ShownNames
pub mod TypeOf
