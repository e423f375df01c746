pub mod NamedTypes
pub mod ElementInfo
pub mod ElementFacts
