pub mod FormsLemmas
pub mod Hellos
pub mod RecordLaws
