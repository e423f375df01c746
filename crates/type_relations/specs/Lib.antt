pub mod Boxed
pub mod Closed
pub mod Direct
pub mod Elements
pub mod Erasure
pub mod Named
pub mod RawTypes
