pub mod Rounds
pub mod Streams
pub mod Kinds
