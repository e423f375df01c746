pub mod Agree
pub mod CandidateSets
pub mod Candidates
pub mod Chains
pub mod ClosedCuts
pub mod Reach
pub mod Reaching
