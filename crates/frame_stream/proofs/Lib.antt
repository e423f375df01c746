pub mod StreamsLemmas
pub mod Pieces
pub mod StreamLawsLemmas
