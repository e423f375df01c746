pub mod Marks
pub mod ParamFirsts
pub mod ParamSteps
pub mod MemberFirsts
pub mod MemberFolds
pub mod ParamRows
mod MemberRests
