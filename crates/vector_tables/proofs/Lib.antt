pub mod CasesLemmas
pub mod FrameCasesLemmas
pub mod TableOutcomes
pub mod WordsLemmas
