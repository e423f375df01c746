pub mod EnteringLemmas
pub mod CreationLemmas
mod LentFiles
pub mod FirstFrames
