pub mod NamedElements
pub mod WantedKinds
pub mod Stops
pub use Rattle.type_queries.specs.MemberLists
pub use Rattle.type_queries.specs.OverridingQuestions
pub use Rattle.type_queries.specs.Questions
pub use Rattle.type_queries.specs.Verdicts
pub use Rattle.type_queries.specs.declared.fault.QueryFault
