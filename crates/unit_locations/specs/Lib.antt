pub mod Lines
pub mod LinesShown
pub mod LocatedTable
pub mod Held
