pub mod NamesOutside
pub mod ReachedLemmas
mod NotedQuestions
