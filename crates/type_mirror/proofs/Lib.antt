pub mod Replacements
pub mod Replaced
pub mod Stays
pub mod VariablesOf
pub mod Nestings
pub mod ValueNestings
