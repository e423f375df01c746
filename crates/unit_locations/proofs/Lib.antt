pub mod LocatedLemmas
pub mod LocationLaws
