pub mod PositionLemmas
pub mod PlaceLemmas
pub mod RootLemmas
pub mod NoteLemmas
pub mod EntryLemmas
pub mod NumberLemmas
pub mod FoundNotes
pub mod StandLemmas
