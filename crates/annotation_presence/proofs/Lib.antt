pub mod CarriedLists
pub mod OuterScopes
pub mod PresenceLemmas
