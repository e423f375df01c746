pub mod Asked
pub mod EntryLaws
pub mod NoteLaws
pub mod RecordLaws
