pub mod Replies
pub mod ReplyLaws
pub mod Remembered
pub use Rattle.child_questions.specs.NamedElements
