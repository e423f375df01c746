mod NumberedFiles
mod StoredEntries
mod RememberedRuns
mod ProjectStubs
mod NextLaws
mod SpelledShapes
mod AskedBeyond
