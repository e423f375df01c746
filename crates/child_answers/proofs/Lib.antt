pub mod AgreeingAnswers
pub mod FramesOfReplies
pub mod JudgedAnswers
pub mod RememberedAnswers
pub mod RememberedFrames
pub mod ToldReplies
pub mod TypesOfKind
