pub mod Gathered
pub mod MemberNumbers
pub mod MemberOf
pub mod NearestLevels
pub mod Once
pub mod Reached
