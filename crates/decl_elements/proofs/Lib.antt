pub mod Everywhere
pub mod FewChildren
pub mod Positions
pub mod WalkLaws
pub mod WalkSteps
