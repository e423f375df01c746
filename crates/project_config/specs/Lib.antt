pub mod Answers
pub mod Discovery
pub mod Items
pub mod Options
pub mod Reading
pub mod Settled
