pub mod BoundedNumbers
pub mod BoundedValues
pub mod Endings
pub mod QuotedLemmas
pub mod QuotedValues
