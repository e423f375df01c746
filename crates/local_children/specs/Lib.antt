pub mod Streams
pub mod StreamLaws
pub mod Hearing
pub mod Serving
